use Rattle.std.proofs.Common.{◌<◌, refl, arith}
use Rattle.item_step.specs.declared.rest.AskedAction.TheVariants as wanted
use Rattle.item_step.proofs.AnswerLaws.{asks_waits}
use Rattle.item_step.proofs.run.at_barrier.Goals as goal

pub returns-else-ticks_left-eq0-clause-stands : goal.returns-else-ticks_left-eq0-clause-stands
returns-else-ticks_left-eq0-clause-stands c =
    let item = c.args.machine.now in
    let some : 0 < item.ticks = let left = c.ticks_left.ensures in let more = c.if-ticks_left-eq0.false in omega (arith, left, more) in
    asks_waits item c.requires.verified _ c.requires.here (wanted.Barrier c.args.site c.args.depth c.args.fences) (λ on after. refl) some
