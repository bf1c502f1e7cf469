use Rattle.std.proofs.Common.{◌<◌, IfSome, length}
use Rattle.shortening.proofs.order.last_of.Given as goal

abbrev pub invariant-loop-i : goal.invariant-loop-i
invariant-loop-i l = IfSome l.last (λ place. place < length l.runs)
