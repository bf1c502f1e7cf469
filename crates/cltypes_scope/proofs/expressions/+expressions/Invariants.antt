use Rattle.std.proofs.Common.{◌≡◌, ◌+◌, ◌*◌, max, None, take}
use Rattle.clmodel.specs.Tree.{terms}
use Rattle.clmodel.specs.Typing.Least.{first, least}
use Rattle.clmodel.specs.Typing.Faults.{terms_faults, arguments_faults, wanted, last_kind, first_kind}
use Rattle.clmodel.specs.declared.tree.Expression.{size-Expression}
use Rattle.cltypes_scope.specs.Names.{meaning_of}
use Rattle.cltypes_scope.specs.Fenced.{names_of}
use Rattle.cltypes_scope.proofs.expressions.+expressions.Given as goal

-- Three for each level of an expression: a function that checks a node's parts is called by the one that checks the
-- node.

abbrev pub decreases-check_in : goal.decreases-check_in
decreases-check_in l = 3 * goal.size-check_in l

abbrev pub decreases-check_element : goal.decreases-check_element
decreases-check_element l = 3 * goal.size-check_element l + 1

abbrev pub decreases-check_address : goal.decreases-check_address
decreases-check_address l = 3 * goal.size-check_address l + 1

abbrev pub decreases-check_dereference : goal.decreases-check_dereference
decreases-check_dereference l = 3 * goal.size-check_dereference l + 1

abbrev pub decreases-check_call_in : goal.decreases-check_call_in
decreases-check_call_in l = 3 * goal.size-check_call_in l + 2

abbrev pub decreases-check_arguments : goal.decreases-check_arguments
decreases-check_arguments l = 3 * goal.size-check_arguments l + 1

abbrev pub decreases-check_unary : goal.decreases-check_unary
decreases-check_unary l = 3 * goal.size-check_unary l + 1

abbrev pub decreases-check_cast : goal.decreases-check_cast
decreases-check_cast l = 3 * goal.size-check_cast l + 1

abbrev pub decreases-check_binary : goal.decreases-check_binary
decreases-check_binary l = 3 * max (size-Expression l.left.now) (size-Expression l.right.now) + 1

abbrev pub decreases-check_choice : goal.decreases-check_choice
decreases-check_choice l = 3 * max (size-Expression l.condition.now) (max (size-Expression l.chosen.now) (size-Expression l.otherwise.now)) + 1

-- the arguments so far have no fault inside, and `least` is the least of their own
abbrev pub invariant-check_arguments-loop-index : goal.invariant-check_arguments-loop-index
invariant-check_arguments-loop-index l = record {
  inside : first (terms_faults (names_of l.names) (terms (take l.index l.arguments))) ≡ None;
  own : l.least ≡ least (arguments_faults (names_of l.names) (wanted (meaning_of l.meaning)) (terms (take l.index l.arguments)));
  kind : l.last ≡ last_kind (names_of l.names) (terms (take l.index l.arguments));
  first_kind : l.first ≡ first_kind (names_of l.names) (terms (take l.index l.arguments));
}
