use Rattle.std.proofs.Common.{arith}
use Rattle.explore_runs.proofs.Bytes.{one_more}
use Rattle.explore_runs.proofs.apart.byte_apart.Goals as goal

pub loop-byte-init : goal.loop-byte-init
loop-byte-init c = λ j b. absurd (omega (arith, b))

pub loop-byte-preserved : goal.loop-byte-preserved
loop-byte-preserved c = one_more c.args.one.now c.args.other.now c.loop-byte.byte c.loop-byte.invariant (c.is_alike.ensures.same c.if-not-is_alike.false)

pub returns-then-not-is_alike-clause-apart : goal.returns-then-not-is_alike-clause-apart
returns-then-not-is_alike-clause-apart c = (c.is_alike.ensures.apart c.if-not-is_alike.true, c.loop-byte.invariant)

pub returns-clause-alike : goal.returns-clause-alike
returns-clause-alike c = λ j b. c.loop-byte.invariant j (omega (arith, b, c.loop-byte-test.false))
