use Rattle.std.proofs.Common.{◌≡◌, ◌∙◌, refl}
use Rattle.std.proofs.lemmas.Result.{IfOk-weaker}
use Rattle.item_step.specs.Launches.{setup_of}
use Rattle.item_step.specs.Setups.{plain}
use Rattle.launches.specs.Groups.{HasGroups}
use Rattle.device.specs.Prepared.{prepared_setup}
use Rattle.device.proofs.Kept.{launched_code}
use Rattle.device.proofs.Names.{buffers_few}
use Rattle.device.proofs.Runs.{has_groups}
use Rattle.device.proofs.prepared.Prepared.launch.Goals as goal

pub new-requires-clause-few : goal.new-requires-clause-few
new-requires-clause-few c = buffers_few (plain c.setup.result) (prepared_setup c.args.self.now c.args.range.now) c.setup.ensures c.args.self.now.few

pub returns-clause-groups : goal.returns-clause-groups
returns-clause-groups c =
    let size = c.group_items-group_size in
    IfOk-weaker c.new.result (λ launch. setup_of launch ≡ plain c.setup.result) (λ launch. HasGroups (setup_of launch))
    (λ launch same.
    has_groups c.args.self.now.configuration (setup_of launch) (prepared_setup c.args.self.now c.args.range.now) size.result (same ∙ c.setup.ensures) size.ensures.count size.ensures.few size.ensures.whole
    size.ensures.few_items refl)
    c.new.ensures.setup

pub returns-clause-code : goal.returns-clause-code
returns-clause-code c =
    launched_code c.new.result (plain c.setup.result) (prepared_setup c.args.self.now c.args.range.now) c.args.self.now.code.now c.new.ensures.setup c.new.ensures.code c.setup.ensures
    c.args.self.now.listed
