use Rattle.origins.proofs.Chaining.{Reached}
use Rattle.origins.proofs.origin.origin_inside.Given as goal

abbrev pub invariant-loop-node : goal.invariant-loop-node
invariant-loop-node l = Reached l.functions l.fn.entered l.through.items l.end l.left

abbrev pub decreases-loop-node : goal.decreases-loop-node
decreases-loop-node l = l.end
