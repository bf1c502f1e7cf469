use Rattle.std.proofs.Common.{ap, ◌∙◌}
use Rattle.std.proofs.lemmas.Result.{IfOk-weaker}
use Rattle.regcode.specs.Listing.{Listing}
use Rattle.item_step.specs.Launches.{started}
use Rattle.item_step.proofs.Starts.{acts_as_next, given_as_said}
use Rattle.item_step.proofs.launch.Launch.start.Goals as goal

pub returns-clause-acts : goal.returns-clause-acts
returns-clause-acts c =
    IfOk-weaker c.start.result _ _
    (λ item is answers. acts_as_next c.args.self.now c.args.item c.as_slice-2.result.now c.as_slice-4.result.now item c.as_slice-2.ensures.value (c.as_slice-4.ensures.value ∙ ap (λ (l : Listing). l.registers) c.tables.ensures) is answers)
    c.start.ensures

pub returns-clause-starts : goal.returns-clause-starts
returns-clause-starts c =
    IfOk-weaker c.start.result _ _
    (λ item is.
    is
    ∙ ap (λ given. record (started c.args.self.now c.args.item) { given = given })
    (given_as_said c.args.self.now c.args.item c.as_slice-2.result.now c.as_slice-4.result.now c.as_slice-2.ensures.value (c.as_slice-4.ensures.value ∙ ap (λ (l : Listing). l.registers) c.tables.ensures)))
    c.start.ensures
