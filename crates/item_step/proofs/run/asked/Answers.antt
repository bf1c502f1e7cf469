use Rattle.std.proofs.Common.{◌<◌, sym, subst, arith}
use Rattle.register_values.proofs.LeadingLaws.{leads_ok}
use Rattle.item_step.specs.Waiting.{Waits}
use Rattle.item_step.proofs.AnswerLaws.{asks_waits}
use Rattle.item_step.proofs.run.asked.Goals as goal

pub returns-else-ticks_left-eq0-clause-stands : goal.returns-else-ticks_left-eq0-clause-stands
returns-else-ticks_left-eq0-clause-stands c =
    let item = c.args.machine.now in
    let some : 0 < item.ticks = let left = c.ticks_left.ensures in let more = c.if-ticks_left-eq0.false in omega (arith, left, more) in
    subst (λ p. Waits p item) (sym c.pending_at.ensures)
    (asks_waits item c.requires.verified _ c.requires.here _ (λ on after. leads_ok _ _ _ _ c.in-Ok.is (c.wanted.ensures on after)) some)
