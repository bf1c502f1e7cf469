use Rattle.std.proofs.Common.{◌≡◌, ◌-◌, ◌≤◌, None, replicate, vec_len}
use Rattle.host_commands.proofs.kernel.none_given.Given as goal

abbrev pub invariant-loop-arguments : goal.invariant-loop-arguments
invariant-loop-arguments l = (l.arguments.items ≡ replicate (vec_len l.arguments) None) × (vec_len l.arguments ≤ l.count)

abbrev pub decreases-loop-arguments : goal.decreases-loop-arguments
decreases-loop-arguments l = l.count - vec_len l.arguments
