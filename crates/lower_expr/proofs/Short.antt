-- How many instructions the code of expressions and of targets has: six a node at most.
use Rattle.std.proofs.Common.{ℕ, suc, ◌+◌, ◌*◌, ◌≤◌, Bool, true, false, Option, None, Some, List, [], ◌∷◌, ◌++◌, length, if◌then◌else◌, arith}
use Rattle.std.proofs.lemmas.List.{length-append}
use Rattle.clnum.specs.Integer.{Integer}
use Rattle.clnum.specs.declared.operators.BinaryOperator.{BinaryOperator}
use Rattle.clmodel.specs.BuiltIns.{built_in}
use Rattle.clmodel.specs.Next.{is_private_array}
use Rattle.clmodel.specs.Tree.{Term, Number, Variable, Element, ElementAddress, Dereference, Call, Unary, Cast, Binary, Choice, Terms, NoTerm, ThenTerm, Target, TargetVariable, TargetElement, TargetDereference}
use Rattle.clmodel.specs.Typing.Rules.{count}
use Rattle.clmodel.specs.Typing.Sizes.{Sizes, term_size, terms_size, target_size}
use Rattle.clmodel.specs.declared.setup.BuiltIn.{BuiltIn}
use Rattle.clmodel.specs.declared.tree.InfixOperator.{InfixOperator}
use Rattle.clmodel.specs.declared.tree.InfixOperator.TheVariants.{Arithmetic, LogicalAnd, LogicalOr}
use Rattle.clmodel.specs.declared.tree.VariableType.{VariableType}
use Rattle.folding.specs.Constants.{constant_of}
use Rattle.regcode.specs.declared.instruction.Instruction.{Instruction}
use Rattle.lower_expr.specs.Scope.{Scope}
use Rattle.lower_expr.specs.Expressions.{folded, expr_code, terms_code, target_code, variable_code, element_code, infix_code, choice_code, call_code, call_only_code}
use Rattle.lower_expr.proofs.Lengths.{call_length, call_only_length}
use Rattle.lower_expr.specs.Targets.{set_variable_code, fetch_code, put_code, combine_code}

-- there are at most n
pub record Short (n : ℕ) (xs : List Instruction) : Type 0 where
  pub most : length xs ≤ n

pub none : Short 0 []
none = record { most = omega arith }

pub single : {x : Instruction} → Short 1 (x ∷ [])
single = record { most = omega arith }

pub more : {n : ℕ} {x : Instruction} {xs : List Instruction} → Short n xs → Short (suc n) (x ∷ xs)
more h = record { most = omega (arith, h.most) }

pub both : {m n : ℕ} {xs ys : List Instruction} → Short m xs → Short n ys → Short (m + n) (xs ++ ys)
both {xs = xs} {ys = ys} h k = record { most = omega (arith, length-append xs ys, h.most, k.most) }

pub within : {m n : ℕ} {xs : List Instruction} → Short m xs → m ≤ n → Short n xs
within h le = record { most = omega (arith, h.most, le) }

either : (b : Bool) {n : ℕ} {xs ys : List Instruction} → Short n xs → Short n ys → Short n (if b then xs else ys)
either true h k = h
either false h k = k

variable_short : (to : ℕ) (from : Option ℕ) (name : ℕ) → Short 2 (variable_code to from name)
variable_short to None name = more single
variable_short to (Some from) name = within single (omega arith)

element_short : (to : ℕ) (from : Option ℕ) (name register : ℕ) {n : ℕ} {index : List Instruction} → Short n index → Short (2 + (n + 1)) (element_code to from name index register)
element_short to from name register h = both (variable_short to from name) (both h single)

infix_short : (operator : InfixOperator) (to first second : ℕ) {n : ℕ} {right : List Instruction} → Short n right → Short (n + 6) (infix_code operator to first second right)
infix_short (Arithmetic operator) to first second h = within (both h single) (omega arith)
infix_short LogicalAnd to first second h = within (more (both h (more (more (more single))))) (omega arith)
infix_short LogicalOr to first second h = within (more (more (both h (more (more (more single)))))) (omega arith)

choice_short : (condition : ℕ) {m n : ℕ} {one other : List Instruction} → Short m one → Short n other → Short (suc (m + suc n)) (choice_code condition one other)
choice_short condition h k = more (both h (more k))

pub call_short : (function : Option BuiltIn) (to : ℕ) (numbers : List ℕ) → Short 1 (call_code function to numbers)
call_short function to numbers = record { most = omega (arith, call_length function to numbers) }

pub call_only_short : (function : Option BuiltIn) (to : ℕ) (numbers : List ℕ) → Short 1 (call_only_code function to numbers)
call_only_short function to numbers = record { most = omega (arith, call_only_length function to numbers) }

set_variable_short : (to : Option ℕ) (from : ℕ) (kind : VariableType) → Short 1 (set_variable_code to from kind)
set_variable_short None from kind = single
set_variable_short (Some to) from kind = single

-- with the code that n nodes of parts have
leaf_fits : 2 ≤ 6 * 1
leaf_fits = omega arith

node_fits : (n k : ℕ) → k ≤ 6 → 6 * n + k ≤ 6 * suc n
node_fits n k h = omega (arith, h)

-- each expression has a node
pub some_node : (sizes : Sizes) (e : Term) → 1 ≤ (term_size sizes e).nodes
some_node sizes (Number at value) = omega arith
some_node sizes (Variable at name) = omega arith
some_node sizes (Element at name index) = omega arith
some_node sizes (ElementAddress at name_at name index) = omega arith
some_node sizes (Dereference at pointer) = omega arith
some_node sizes (Call at name arguments) = omega arith
some_node sizes (Unary at operator operand) = omega arith
some_node sizes (Cast at target operand) = omega arith
some_node sizes (Binary at operator left right) = omega arith
some_node sizes (Choice at condition chosen otherwise) = omega arith

folded_short : (o : Option Integer) (level : ℕ) {n : ℕ} {xs : List Instruction} → 1 ≤ n → Short (6 * n) xs → Short (6 * n) (folded o level xs)
folded_short (Some v) level some h = within single (omega (arith, some))
folded_short None level some h = h

module _ (sizes : Sizes) (scope : Scope) where
  -- a constant expression has one instruction
  settled : (level : ℕ) (e : Term) {xs : List Instruction} → Short (6 * (term_size sizes e).nodes) xs → Short (6 * (term_size sizes e).nodes) (folded (constant_of scope.variables e) level xs)
  settled level e h = folded_short (constant_of scope.variables e) level (some_node sizes e) h

  mutual
    pub expr_short : (level : ℕ) (e : Term) → Short (6 * (term_size sizes e).nodes) (expr_code scope level e)
    expr_short level (Number at value) = within single (omega arith)
    expr_short level (Variable at name) = within (variable_short _ _ name) leaf_fits
    expr_short level (Element at name index) =
        either (is_private_array scope.variables name) (within (both (expr_short level index) single) (node_fits (term_size sizes index).nodes 1 (omega arith)))
        (within (both (element_short _ _ name _ (expr_short (level + 1) index)) single) (omega arith))
    expr_short level (ElementAddress at name_at name index) = within (element_short _ _ name _ (expr_short (level + 1) index)) (omega arith)
    expr_short level (Dereference at pointer) = within (both (expr_short level pointer) single) (node_fits (term_size sizes pointer).nodes 1 (omega arith))
    expr_short level (Call at name arguments) =
        settled level (Call at name arguments) (within (both (terms_short level arguments) (call_short (built_in name) _ _)) (omega arith))
    expr_short level (Unary at operator operand) =
        settled level (Unary at operator operand) (within (both (expr_short level operand) single) (node_fits (term_size sizes operand).nodes 1 (omega arith)))
    expr_short level (Cast at target operand) =
        settled level (Cast at target operand) (within (both (expr_short level operand) single) (node_fits (term_size sizes operand).nodes 1 (omega arith)))
    expr_short level (Binary at operator left right) =
        settled level (Binary at operator left right) (within (both (expr_short level left) (infix_short operator _ _ _ (expr_short (level + 1) right))) (omega arith))
    expr_short level (Choice at condition chosen otherwise) =
        settled level (Choice at condition chosen otherwise)
        (within (both (expr_short level condition) (choice_short _ (both (expr_short level chosen) single) (both (expr_short level otherwise) single))) (omega arith))

    pub terms_short : (level : ℕ) (es : Terms) → Short (6 * (terms_size sizes es).nodes) (terms_code scope level es)
    terms_short level NoTerm = within none (omega arith)
    terms_short level (ThenTerm es e) = within (both (terms_short level es) (expr_short _ e)) (omega arith)

  pub target_short : (level : ℕ) (to : Target) → Short (6 * (target_size sizes to).nodes) (target_code scope level to)
  target_short level (TargetVariable at name) = within none (omega arith)
  target_short level (TargetElement at name index) =
      either (is_private_array scope.variables name) (within (expr_short level index) (omega arith)) (within (element_short _ _ name _ (expr_short (level + 1) index)) (omega arith))
  target_short level (TargetDereference at pointer) = within (both (expr_short level pointer) single) (node_fits (term_size sizes pointer).nodes 1 (omega arith))

-- there are no more arguments than nodes of theirs
pub few_terms : (sizes : Sizes) (es : Terms) → count es ≤ (terms_size sizes es).nodes
few_terms sizes NoTerm = omega arith
few_terms sizes (ThenTerm es e) = omega (arith, few_terms sizes es, some_node sizes e)

module _ (scope : Scope) where
  pub fetch_short : (to : Target) (reached at : ℕ) → Short 2 (fetch_code scope to reached at)
  fetch_short (TargetVariable at name) reached to = variable_short to _ name
  fetch_short (TargetElement at name index) reached to = either (is_private_array scope.variables name) (within single (omega arith)) (within single (omega arith))
  fetch_short (TargetDereference at pointer) reached to = within single (omega arith)

  pub put_short : (to : Target) (reached from : ℕ) → Short 1 (put_code scope to reached from)
  put_short (TargetVariable at name) reached from = set_variable_short _ from _
  put_short (TargetElement at name index) reached from = either (is_private_array scope.variables name) single single
  put_short (TargetDereference at pointer) reached from = single

  pub combine_short : (to : Target) (level : ℕ) (operator : BinaryOperator) (kind : VariableType) (old right : ℕ) → Short 2 (combine_code scope to level operator kind old right)
  combine_short to level operator kind old right = more (put_short to _ _)
