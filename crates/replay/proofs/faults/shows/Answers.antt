use Rattle.std.proofs.Common.{sym, subst}
use Rattle.std.specs.Bool.{Decides}
use Rattle.std.specs.Option.{is_some}
use Rattle.clmodel.specs.Law.{Shows}
use Rattle.replay.proofs.faults.shows.Goals as goal

pub returns-in_ok-find_conflict-in-Some : goal.returns-in_ok-find_conflict-in-Some
returns-in_ok-find_conflict-in-Some g c = λ r s at.
    let l = g.D.Described.launch c.args.launch.now in
    let found = c.in_ok-find_conflict-in-Some in
    subst (λ b. Decides b (Shows l s c.args.fault.now)) (sym c.is_some.ensures)
    (subst (λ f. Decides (is_some found.field-0) (Shows l s f)) (sym c.in-Some.ensures) (found.ensures.shown s (c.log.ensures l r s at)))
