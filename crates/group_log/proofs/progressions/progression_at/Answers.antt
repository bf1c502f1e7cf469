use Rattle.std.proofs.Common.{arith}
use Rattle.group_log.proofs.Places.{before_next}
use Rattle.group_log.proofs.progressions.progression_at.Goals as goal

pub returns-clause-before : goal.returns-clause-before
returns-clause-before c d =
    before_next c.args.progressions.now c.args.end c.loop-low.low c.loop-low.high c.args.i d c.requires.next c.requires.there c.loop-low.invariant.order (omega (arith, c.loop-low-test.false))
    c.loop-low.invariant.within c.loop-low.invariant.before
