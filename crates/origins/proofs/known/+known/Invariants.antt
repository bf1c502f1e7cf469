use Rattle.std.proofs.Common.{◌+◌, ◌*◌}
use denote.Param.Weighed.{most}
use Rattle.clmodel.specs.declared.tree.Expression.{size-Expression}
use Rattle.origins.proofs.known.+known.Given as goal

abbrev pub decreases-known_of : goal.decreases-known_of
decreases-known_of l = 2 * (size-Expression l.expression.now)

abbrev pub decreases-known_call : goal.decreases-known_call
decreases-known_call l = 2 * (most size-Expression l.arguments.now) + 1
