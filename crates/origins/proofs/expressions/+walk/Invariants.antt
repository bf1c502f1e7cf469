use Rattle.std.proofs.Common.{ℕ, List, take, ◌+◌, ◌*◌}
use denote.Param.Weighed.{most}
use Rattle.clmodel.specs.Tree.{terms}
use Rattle.clmodel.specs.declared.tree.Expression.{size-Expression}
use Rattle.origins.specs.Origins.{Origin, terms_origins}
use Rattle.origins.specs.Walks.{Walks}
use Rattle.origins.proofs.expressions.+walk.Given as goal

abbrev pub decreases-then_expression : goal.decreases-then_expression
decreases-then_expression l = 5 * (size-Expression l.expression.now) + 2

abbrev pub decreases-pass_expression : goal.decreases-pass_expression
decreases-pass_expression l = 5 * (size-Expression l.expression.now) + 1

abbrev pub decreases-pass_parts : goal.decreases-pass_parts
decreases-pass_parts l = 5 * (size-Expression l.expression.now)

abbrev pub decreases-pass_address : goal.decreases-pass_address
decreases-pass_address l = 5 * (size-Expression l.index.now) + 3

abbrev pub decreases-pass_arguments : goal.decreases-pass_arguments
decreases-pass_arguments l = 5 * (most size-Expression l.arguments.now) + 3

-- the arguments so far are passed
abbrev pub invariant-pass_arguments-loop-i : goal.invariant-pass_arguments-loop-i
invariant-pass_arguments-loop-i l = (inside : ℕ → List Origin) → Walks inside (terms_origins l.names (terms (take l.i l.arguments))) l.fn.left l.passed
