use Rattle.std.proofs.Common.{◌+◌, ◌-◌, vec_len}
use Rattle.explain_refusals.proofs.arguments.put_argument.Given as goal

abbrev pub decreases-loop-arguments : goal.decreases-loop-arguments
decreases-loop-arguments l = l.index + 1 - vec_len l.arguments
