use Rattle.std.proofs.Common.{[], ◌∷◌, codes}
use Rattle.command_line.specs.CommandLine.{launch, orders, script, seconds, seed}
use Rattle.command_line.proofs.forms.searched.Goals as goal

pub returns : goal.returns
returns c =
    let launched = c.with.ensures (codes "explore") (script ∷ []) launch c.form_on-form.ensures c.number-launch.ensures in
    let ordered = c.with-2.ensures (codes "explore") (script ∷ launch ∷ []) orders launched c.number-orders.ensures in
    let timed = c.with-3.ensures (codes "explore") (script ∷ launch ∷ orders ∷ []) seconds ordered c.number-seconds.ensures in
    c.with-4.ensures (codes "explore") (script ∷ launch ∷ orders ∷ seconds ∷ []) seed timed c.wide_number-seed.ensures
