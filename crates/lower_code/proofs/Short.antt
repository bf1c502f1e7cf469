-- How many instructions the code of statements has, typed or not: at most 16 a node, with the nodes and the parameters of
-- the helpers that are called.
use Rattle.std.proofs.Common.{◌≡◌, ℕ, zero, suc, ◌+◌, ◌*◌, ◌<◌, ◌≤◌, ◌++◌, Bool, true, false, nat_eq, Option, None, Some, List, [], length, take, refl, ap, sym, subst, ◌∙◌, arith, eqb-true}
use Rattle.std.proofs.Math.Seq.{take-length}
use Rattle.clnum.specs.declared.int_type.IntType.{IntType}
use Rattle.clnum.specs.declared.operators.BinaryOperator.{BinaryOperator}
use Rattle.clmodel.specs.Barrier.{is_barrier, fences}
use Rattle.clmodel.specs.BuiltIns.{built_in}
use Rattle.clmodel.specs.Next.{helper_or, helper_call, step_operator, sites_in}
use Rattle.clmodel.specs.Tree.{Term, Number, Variable, Element, ElementAddress, Dereference, Call, Unary, Cast, Binary, Choice, Terms, Target, MaybeTerm, WithoutTerm, WithTerm, Stmt, Empty, Block, Declare, DeclareAs, DeclareArray, Assign, Step, CallOnly, If, IfElse, While, DoWhile, For, Break, Continue, Return, ReturnValue, Stmts, NoStmt, ThenStmt, MaybeStmt, Without, With, Func, Funcs, ThenFunc, func, array_length}
use Rattle.clmodel.specs.Typing.Sizes.{Size, Sizes, or_nothing, size_in, term_size, target_size, condition_size, size, part_size, row_size}
use Rattle.clmodel.specs.declared.action.Fences.{Fences}
use Rattle.clmodel.specs.declared.setup.BuiltIn.{BuiltIn}
use Rattle.clmodel.specs.declared.tree.Function.{Function}
use Rattle.regcode.specs.declared.instruction.Instruction.{Instruction}
use Rattle.lower_expr.specs.Scope.{Scope, free_level}
use Rattle.lower_expr.specs.Expressions.{registers_for}
use Rattle.lower_expr.proofs.Short.{Short, none, single, more, both, within, expr_short, terms_short, target_short, call_only_short, fetch_short, put_short, combine_short}
use Rattle.lower_code.specs.Code.{Exits, Calls, with_variable, scope_after_part, scope_after_all, parameter_variables, array_code, pass_code, needed_code, no_value_code, value_code, wait_code, condition_code, while_code, right_code, step_code, call_only_statement, stmt_code, part_code, stmts_code, body_code, call_code, result_in}
use Rattle.lower_code.specs.Helpers.{functions_of, inside, with_parameters, widths_of, width_of, widths_in, body_of, WidthsCounted}
use Rattle.lower_code.specs.Room.{instructions}
use Rattle.lower_code.specs.Trees.{all_of}
use Rattle.lower_code.specs.declared.holes.StatementContext.{StatementContext}
use Rattle.lower_code.proofs.Helpers.{function_there}
use Rattle.lower_code.proofs.Lengths.{pass_length}
use Rattle.lower_code.proofs.Lists.{functions_more}
use Rattle.lower_code.proofs.Looking.{look_left}

pub needed_short : (result : Option IntType) → Short 1 (needed_code result)
needed_short None = single
needed_short (Some kind) = within none (omega arith)

pub no_value_short : (result : Option IntType) → Short 1 (no_value_code result)
no_value_short None = within none (omega arith)
no_value_short (Some kind) = single

pub value_short : (result : Option IntType) (level from : ℕ) → Short 1 (value_code result level from)
value_short None level from = within none (omega arith)
value_short (Some kind) level from = single

pub wait_short : (named : Option Fences) (site depth : ℕ) → Short 1 (wait_code named site depth)
wait_short None site depth = single
wait_short (Some f) site depth = single

pub array_short : (is_local : Bool) (t : IntType) (count number level : ℕ) → Short 2 (array_code is_local t count number level)
array_short true t count number level = within single (omega arith)
array_short false t count number level = more single

pub condition_short : (sizes : Sizes) (scope : Scope) (test : MaybeTerm) → Short (6 * (condition_size sizes test).nodes + 1) (condition_code scope test)
condition_short sizes scope WithoutTerm = within none (omega arith)
condition_short sizes scope (WithTerm e) = both (expr_short sizes scope (free_level scope) e) single

pub step_short : (sizes : Sizes) (scope : Scope) (calls : Calls) (results : ℕ → Option IntType) (inside : ℕ → ℕ) (result : Option IntType) (level : ℕ) (place : Target) (operator : BinaryOperator)
    → Short (6 * (target_size sizes place).nodes + 5) (step_code calls results inside result scope level place operator)
step_short sizes scope calls results inside result level place operator =
    both (target_short sizes scope level place) (both (fetch_short scope place _ _) (more (combine_short scope place level operator _ _ _)))

-- a loop that begins with its condition
pub while_short : {m n : ℕ} {body condition : List Instruction} (depth : ℕ) → Short m body → Short n condition → Short (m + n + 4) (while_code depth body condition)
while_short depth h k = within (more (more (more (both h (both k single))))) (omega arith)

-- six a node are no more
wider : (n : ℕ) {xs : List Instruction} → Short (6 * n) xs → Short (instructions n) xs
wider n h = within h (omega arith)

-- each helper's code in place of its call: that of its nodes and its parameters, and one instruction at its end
abbrev pub AreShort : Sizes → Calls → Type 0
AreShort sizes calls = (x : ℕ) (numbers : List ℕ) (level depth site : ℕ) → Short (instructions (size_in sizes x).nodes + 1) (calls x numbers level depth site)

module _ (sizes : Sizes) (calls : Calls) (known : AreShort sizes calls) (results : ℕ → Option IntType) (inside : ℕ → ℕ) (result : Option IntType) where
  -- a call that is a right side
  called_short : (f : Option BuiltIn) (scope : Scope) (at x : ℕ) (es : Terms) (level depth site : ℕ)
      → Short (instructions (term_size sizes (Call at x es)).nodes) (right_code calls results inside result scope level (helper_or f (record { name = x; arguments = es })) (Call at x es) depth site)
  called_short None scope at x es level depth site =
      within (both (terms_short sizes scope level es) (both (known x (registers_for scope level es) level depth site) (needed_short (results x)))) (omega arith)
  called_short (Some f) scope at x es level depth site = wider (term_size sizes (Call at x es)).nodes (expr_short sizes scope level (Call at x es))

  right_short : (scope : Scope) (e : Term) (level depth site : ℕ) → Short (instructions (term_size sizes e).nodes) (right_code calls results inside result scope level (helper_call e) e depth site)
  right_short scope (Number at value) level depth site = wider (term_size sizes (Number at value)).nodes (expr_short sizes scope level (Number at value))
  right_short scope (Variable at name) level depth site = wider (term_size sizes (Variable at name)).nodes (expr_short sizes scope level (Variable at name))
  right_short scope (Element at name index) level depth site = wider (term_size sizes (Element at name index)).nodes (expr_short sizes scope level (Element at name index))
  right_short scope (ElementAddress at name_at name index) level depth site = wider (term_size sizes (ElementAddress at name_at name index)).nodes (expr_short sizes scope level (ElementAddress at name_at name index))
  right_short scope (Dereference at pointer) level depth site = wider (term_size sizes (Dereference at pointer)).nodes (expr_short sizes scope level (Dereference at pointer))
  right_short scope (Call at name arguments) level depth site = called_short (built_in name) scope at name arguments level depth site
  right_short scope (Unary at operator operand) level depth site = wider (term_size sizes (Unary at operator operand)).nodes (expr_short sizes scope level (Unary at operator operand))
  right_short scope (Cast at target operand) level depth site = wider (term_size sizes (Cast at target operand)).nodes (expr_short sizes scope level (Cast at target operand))
  right_short scope (Binary at operator left right) level depth site = wider (term_size sizes (Binary at operator left right)).nodes (expr_short sizes scope level (Binary at operator left right))
  right_short scope (Choice at condition chosen otherwise) level depth site = wider (term_size sizes (Choice at condition chosen otherwise)).nodes (expr_short sizes scope level (Choice at condition chosen otherwise))

  -- a call that is a whole statement
  only_short : (waits : Bool) (f : Option BuiltIn) (scope : Scope) (at x : ℕ) (es : Terms) (depth site : ℕ)
      → Short (instructions (size sizes (CallOnly at x es)).nodes) (call_only_statement calls results inside result scope waits f x es depth site)
  only_short true f scope at x es depth site = within (wait_short (fences es) site depth) (omega arith)
  only_short false (Some f) scope at x es depth site = within (both (terms_short sizes scope (free_level scope) es) (call_only_short (Some f) _ _)) (omega arith)
  only_short false None scope at x es depth site =
      within (both (terms_short sizes scope (free_level scope) es) (known x (registers_for scope (free_level scope) es) (free_level scope) depth site)) (omega arith)

  mutual
    pub stmt_short : (scope : Scope) (s : Stmt) (depth site : ℕ) (exits : Exits) → Short (instructions (size sizes s).nodes) (stmt_code calls results inside result scope s depth site exits)
    stmt_short scope (Empty at) depth site exits = within none (omega arith)
    stmt_short scope (Block at body) depth site exits = within (stmts_short scope body depth site exits) (omega arith)
    stmt_short scope (Declare at kind name_at name) depth site exits = within single (omega arith)
    stmt_short scope (DeclareAs at kind name_at name value) depth site exits =
        within (more (both (right_short (with_variable scope name kind) value (free_level scope + 1) depth site) single)) (omega arith)
    stmt_short scope (DeclareArray at true element name_at name length_at count) depth site exits = within (array_short true element (array_length count) (length scope.variables) (free_level scope)) (omega arith)
    stmt_short scope (DeclareArray at false element name_at name length_at count) depth site exits = within (array_short false element (array_length count) (length scope.variables) (free_level scope)) (omega arith)
    stmt_short scope (Assign at to None value) depth site exits =
        within (both (target_short sizes scope (free_level scope) to) (both (right_short scope value (free_level scope + 1) depth site) (put_short scope to _ _))) (omega arith)
    stmt_short scope (Assign at to (Some operator) value) depth site exits =
        within (both (target_short sizes scope (free_level scope) to) (both (fetch_short scope to _ _) (both (right_short scope value (free_level scope + 2) depth site) (combine_short scope to _ operator _ _ _)))) (omega arith)
    stmt_short scope (Step at to is_increment) depth site exits =
        within (step_short sizes scope calls results inside result (free_level scope) to (step_operator is_increment)) (omega arith)
    stmt_short scope (CallOnly at name arguments) depth site exits = only_short (is_barrier name) (built_in name) scope at name arguments depth site
    stmt_short scope (If at test chosen) depth site exits =
        within (both (expr_short sizes scope (free_level scope) test) (more (stmt_short scope chosen depth site exits))) (omega arith)
    stmt_short scope (IfElse at test chosen otherwise) depth site exits =
        within (both (expr_short sizes scope (free_level scope) test) (more (both (stmt_short scope chosen depth site _) (more (stmt_short scope otherwise depth _ exits))))) (omega arith)
    stmt_short scope (While at test body) depth site exits =
        within (while_short depth (stmt_short scope body (depth + 1) site _) (condition_short sizes scope (WithTerm test))) (omega arith)
    stmt_short scope (DoWhile at body test) depth site exits =
        within (more (more (both (stmt_short scope body (depth + 1) site _) (both (condition_short sizes scope (WithTerm test)) single)))) (omega arith)
    stmt_short scope (For at first test third body) depth site exits =
        let inner = scope_after_part scope first in
        within (both (part_short scope first depth site _)
        (while_short depth (both (stmt_short inner body (depth + 1) _ _) (part_short inner third (depth + 1) _ _)) (condition_short sizes inner test))) (omega arith)
    stmt_short scope (Break at) depth site exits = within single (omega arith)
    stmt_short scope (Continue at) depth site exits = within single (omega arith)
    stmt_short scope (Return at) depth site exits = within (both (no_value_short result) single) (omega arith)
    stmt_short scope (ReturnValue at value) depth site exits =
        within (both (expr_short sizes scope (free_level scope) value) (both (value_short result scope.base _) single)) (omega arith)

    pub part_short : (scope : Scope) (part : MaybeStmt) (depth site : ℕ) (exits : Exits) → Short (instructions (part_size sizes part).nodes) (part_code calls results inside result scope part depth site exits)
    part_short scope Without depth site exits = within none (omega arith)
    part_short scope (With s) depth site exits = stmt_short scope s depth site exits

    pub stmts_short : (scope : Scope) (ss : Stmts) (depth site : ℕ) (exits : Exits) → Short (instructions (row_size sizes ss).nodes) (stmts_code calls results inside result scope ss depth site exits)
    stmts_short scope NoStmt depth site exits = within none (omega arith)
    stmts_short scope (ThenStmt ss s) depth site exits = within (both (stmts_short scope ss depth site _) (stmt_short (scope_after_all scope ss) s depth _ exits)) (omega arith)

-- the body of a function
function_short : (sizes : Sizes) (calls : Calls) → AreShort sizes calls → (results : ℕ → Option IntType) (inside : ℕ → ℕ) (f : Func) (level depth site : ℕ)
    → Short (instructions (row_size sizes f.body).nodes + 1) (body_code calls results inside f level depth site)
function_short sizes calls known results inside f level depth site =
    let scope : Scope = record { base = level; variables = parameter_variables f.parameters [] } in
    both (stmts_short sizes calls known results inside f.result scope f.body depth site _) (no_value_short f.result)

-- a helper of these functions and one more, in place of its call
case_short : (earlier : Funcs) (f : Func) → AreShort (widths_of earlier) (call_code earlier)
    → width_of earlier f ≤ (size_in (widths_of (ThenFunc earlier f)) f.name).nodes
    → (x : ℕ) (b : Bool) → nat_eq x f.name ≡ b → (numbers : List ℕ) (level depth site : ℕ)
    → Short (instructions (size_in (widths_of (ThenFunc earlier f)) x).nodes + 1)
    (elim b as (λ _. List Instruction) [
      | true ↦ pass_code f.parameters numbers level ++ body_code (call_code earlier) (result_in earlier) (sites_in earlier) f level depth site
      | false ↦ call_code earlier x numbers level depth site
    ])
case_short earlier f before counted x true e numbers level depth site =
    let there = ap (λ z. (size_in (widths_of (ThenFunc earlier f)) z).nodes) (eqb-true x f.name e) in
    let passed : Short (length f.parameters) (pass_code f.parameters numbers level) = record { most = omega (arith, pass_length f.parameters numbers level) } in
    within (both passed (function_short (widths_of earlier) (call_code earlier) before (result_in earlier) (sites_in earlier) f level depth site)) (omega (arith, there, counted))
case_short earlier f before counted x false e numbers level depth site =
    let there = ap (λ (o : Option Size). (or_nothing o).nodes) (look_left (nat_eq x) (widths_of earlier) f.name (with_parameters f (row_size (widths_of earlier) f.body)) e) in
    within (before x numbers level depth site) (omega (arith, there))

-- the first functions
first_short : (gs : List Function) → WidthsCounted gs → (n : ℕ) → n ≤ length gs → AreShort (widths_in (take n gs)) (call_code (functions_of (take n gs)))
first_short gs counted zero small = λ x numbers level depth site. within single (omega arith)
first_short gs counted (suc n) small =
    let below : n < length gs = omega (arith, small) in
    let g = function_there gs n below in
    let f = func g.0 in
    let earlier = functions_of (take n gs) in
    let next : suc n ≡ n + 1 = omega arith in
    let all : functions_of (take (suc n) gs) ≡ ThenFunc earlier f = ap (λ m. functions_of (take m gs)) next ∙ functions_more gs n g.0 below g.1 in
    let widths : width_of earlier f ≤ (size_in (widths_of (ThenFunc earlier f)) f.name).nodes =
    subst (λ fs. width_of earlier f ≤ (size_in (widths_of fs) f.name).nodes) all (counted (suc n) n g.0 (omega arith) small g.1) in
    subst (λ fs. AreShort (widths_of fs) (call_code fs)) (sym all)
    (λ x numbers level depth site.
    case_short earlier f (first_short gs counted n (omega (arith, small))) widths x (nat_eq x f.name) refl numbers level depth site)

-- all of them
pub all_short : (gs : List Function) → WidthsCounted gs → AreShort (widths_in gs) (call_code (functions_of gs))
all_short gs counted = subst (λ hs. AreShort (widths_in hs) (call_code (functions_of hs))) (take-length gs) (first_short gs counted (length gs) (omega arith))

pub body_short : (gs : List Function) → WidthsCounted gs → (f : Function) (level depth site : ℕ)
    → Short (instructions (row_size (widths_in gs) (all_of f.body.items)).nodes + 1) (body_of gs f level depth site)
body_short gs counted f level depth site =
    function_short (widths_in gs) (call_code (functions_of gs)) (all_short gs counted) (result_in (functions_of gs)) (inside gs) (func f) level depth site

-- what stands in a setting
module _ (s : StatementContext) where
  setting_short : AreShort (widths_in s.helpers.functions.now) (call_code (functions_of s.helpers.functions.now))
  setting_short = all_short s.helpers.functions.now s.helpers.widths

  pub statement_short : (scope : Scope) (x : Stmt) (depth site : ℕ) (exits : Exits)
      → Short (instructions (size (widths_in s.helpers.functions.now) x).nodes)
      (stmt_code (call_code (functions_of s.helpers.functions.now)) (result_in (functions_of s.helpers.functions.now)) (inside s.helpers.functions.now) s.result scope x depth site exits)
  statement_short scope x depth site exits = stmt_short (widths_in s.helpers.functions.now) (call_code (functions_of s.helpers.functions.now)) setting_short
      (result_in (functions_of s.helpers.functions.now)) (inside s.helpers.functions.now) s.result scope x depth site exits

  pub maybe_short : (scope : Scope) (x : MaybeStmt) (depth site : ℕ) (exits : Exits)
      → Short (instructions (part_size (widths_in s.helpers.functions.now) x).nodes)
      (part_code (call_code (functions_of s.helpers.functions.now)) (result_in (functions_of s.helpers.functions.now)) (inside s.helpers.functions.now) s.result scope x depth site exits)
  maybe_short scope x depth site exits = part_short (widths_in s.helpers.functions.now) (call_code (functions_of s.helpers.functions.now)) setting_short
      (result_in (functions_of s.helpers.functions.now)) (inside s.helpers.functions.now) s.result scope x depth site exits
