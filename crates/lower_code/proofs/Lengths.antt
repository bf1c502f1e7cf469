-- The length of the code of statements and functions depends on no level, no depth of loops, no number of a barrier and
-- no exit.
use Rattle.std.proofs.Common.{◌≡◌, ℕ, suc, ◌+◌, ◌==◌, Bool, true, false, Option, None, Some, List, [], ◌∷◌, ◌++◌, take, get_or, length, ◌<◌, refl, sym, ap, ◌∙◌, arith}
use Rattle.std.proofs.lemmas.List.{length-append}
use Rattle.clnum.specs.declared.int_type.IntType.{IntType}
use Rattle.clnum.specs.declared.operators.BinaryOperator.{BinaryOperator}
use Rattle.clmodel.specs.Barrier.{is_barrier, fences}
use Rattle.clmodel.specs.BuiltIns.{built_in}
use Rattle.clmodel.specs.Next.{Variables, is_private_array, HelperCall, helper_call, step_operator, sites_in}
use Rattle.clmodel.specs.Tree.{Term, Terms, Target, TargetVariable, TargetElement, TargetDereference, Stmt, Empty, Block, Declare, DeclareAs, DeclareArray, Assign, Step, CallOnly, If, IfElse, While, DoWhile, For, Break, Continue, Return, ReturnValue, Stmts, NoStmt, ThenStmt, MaybeStmt, Without, With, MaybeTerm, WithoutTerm, WithTerm, Func, Funcs, NoFunc, ThenFunc}
use Rattle.clmodel.specs.declared.action.Fences.{Fences}
use Rattle.clmodel.specs.declared.setup.BuiltIn.{BuiltIn}
use Rattle.clmodel.specs.declared.tree.Parameter.{Parameter}
use Rattle.clmodel.specs.declared.tree.VariableType.{VariableType}
use Rattle.regcode.specs.declared.instruction.Instruction.{Instruction}
use Rattle.clmodel.specs.declared.tree.Function.{Function}
use Rattle.clmodel.specs.Tree.{func}
use Rattle.lower_code.specs.declared.functions.FoundFunction.{FoundFunction}
use Rattle.lower_code.specs.Emission.{functions_of, found_code}
use Rattle.lower_code.specs.Emission as emission
use Rattle.lower_code.proofs.Helpers.{code_hit}
use Rattle.lower_code.specs.Code.{Calls, Exits, set_variable_code, fetch_code, put_code, combine_code, array_code, pass_code, arguments_code, variables_after_part, variables_after_all, parameter_variables, needed_code, no_value_code, value_code, wait_code, condition_code, if_code, if_else_code, turn_code, while_code, do_code, right_code, call_only_statement, stmt_code, part_code, stmts_code, body_code, call_code, result_in, variable}
use Rattle.lower_expr.proofs.Lengths.{SameLength, single, longer, joined, chosen, registered, variable_same, call_only_same, from_level, expr_same, terms_same, target_same}

-- Two ways to emit calls, which give each helper code of one length, wherever it is called. How many arguments there
-- are doesn't matter.
abbrev pub AlikeCalls : Calls → Calls → Type 0
AlikeCalls calls other =
    (name : ℕ) (arguments arguments2 : List ℕ) (level level2 depth depth2 site site2 : ℕ) → length (calls name arguments level depth site) ≡ length (other name arguments2 level2 depth2 site2)

-- a helper's code has one length, wherever it is called
abbrev pub Steady : Calls → Type 0
Steady calls = AlikeCalls calls calls

set_variable_same : (to to2 : Option ℕ) (from from2 : ℕ) (kind : VariableType) → SameLength (set_variable_code to from kind) (set_variable_code to2 from2 kind)
set_variable_same None None from from2 kind = single
set_variable_same None (Some to2) from from2 kind = single
set_variable_same (Some to) None from from2 kind = single
set_variable_same (Some to) (Some to2) from from2 kind = single

pub array_same : (is_local : Bool) (element : IntType) (count number number2 level level2 : ℕ) → SameLength (array_code is_local element count number level) (array_code is_local element count number2 level2)
array_same true element count number number2 level level2 = single
array_same false element count number number2 level level2 = longer single

-- one instruction for each parameter, however many arguments there are
pub pass_length : (ps : List Parameter) (arguments : List ℕ) (level : ℕ) → length (pass_code ps arguments level) ≡ length ps
pass_length [] arguments level = refl
pass_length (p ∷ ps) [] level = ap (λ n. suc n) (pass_length ps [] (level + 1))
pass_length (p ∷ ps) (a ∷ arguments) level = ap (λ n. suc n) (pass_length ps arguments (level + 1))

pub arguments_length : (ps : List Parameter) (level : ℕ) → length (arguments_code ps level) ≡ length ps
arguments_length [] level = refl
arguments_length (p ∷ ps) level = ap (λ n. suc n) (arguments_length ps (level + 1))

needed_same : (result : Option IntType) → SameLength (needed_code result) (needed_code result)
needed_same result = record { same = refl }

no_value_same : (result : Option IntType) → SameLength (no_value_code result) (no_value_code result)
no_value_same None = record { same = refl }
no_value_same (Some kind) = single

value_same : (result : Option IntType) (level level2 from from2 : ℕ) → SameLength (value_code result level from) (value_code result level2 from2)
value_same None level level2 from from2 = record { same = refl }
value_same (Some kind) level level2 from from2 = single

wait_same : (named : Option Fences) (site site2 depth depth2 : ℕ) → SameLength (wait_code named site depth) (wait_code named site2 depth2)
wait_same None site site2 depth depth2 = single
wait_same (Some f) site site2 depth depth2 = single

if_same : (register register2 : ℕ) {test test2 one one2 : List Instruction} → SameLength test test2 → SameLength one one2 → SameLength (if_code test register one) (if_code test2 register2 one2)
if_same register register2 h k = joined h (longer k)

if_else_same : (register register2 : ℕ) {test test2 one one2 two two2 : List Instruction} → SameLength test test2 → SameLength one one2 → SameLength two two2
    → SameLength (if_else_code test register one two) (if_else_code test2 register2 one2 two2)
if_else_same register register2 h k l = joined h (longer (joined k (longer l)))

turn_same : (depth depth2 : ℕ) {body body2 condition condition2 : List Instruction} → SameLength body body2 → SameLength condition condition2
    → SameLength (turn_code depth body condition) (turn_code depth2 body2 condition2)
turn_same depth depth2 h k = longer (joined h (joined k single))

while_same : (depth depth2 : ℕ) {body body2 condition condition2 : List Instruction} → SameLength body body2 → SameLength condition condition2
    → SameLength (while_code depth body condition) (while_code depth2 body2 condition2)
while_same depth depth2 h k = longer (longer (turn_same depth depth2 h k))

do_same : (depth depth2 : ℕ) {body body2 condition condition2 : List Instruction} → SameLength body body2 → SameLength condition condition2
    → SameLength (do_code depth body condition) (do_code depth2 body2 condition2)
do_same depth depth2 h k = longer (turn_same depth depth2 h k)

-- with the outermost variable at one level or another
module _ (base other : ℕ) where
  pub fetch_same : (vs : Variables) (to : Target) (reached reached2 at at2 : ℕ) → SameLength (fetch_code (from_level base vs) to reached at) (fetch_code (from_level other vs) to reached2 at2)
  fetch_same vs (TargetVariable at name) reached reached2 to to2 = variable_same to to2 _ _ name (registered base other vs name)
  fetch_same vs (TargetElement at name index) reached reached2 to to2 = chosen (is_private_array vs name) single single
  fetch_same vs (TargetDereference at pointer) reached reached2 to to2 = single

  pub put_same : (vs : Variables) (to : Target) (reached reached2 from from2 : ℕ) → SameLength (put_code (from_level base vs) to reached from) (put_code (from_level other vs) to reached2 from2)
  put_same vs (TargetVariable at name) reached reached2 from from2 = set_variable_same _ _ from from2 _
  put_same vs (TargetElement at name index) reached reached2 from from2 = chosen (is_private_array vs name) single single
  put_same vs (TargetDereference at pointer) reached reached2 from from2 = single

  pub combine_same : (vs : Variables) (to : Target) (level level2 : ℕ) (operator : BinaryOperator) (kind : VariableType) (old old2 right right2 : ℕ)
      → SameLength (combine_code (from_level base vs) to level operator kind old right) (combine_code (from_level other vs) to level2 operator kind old2 right2)
  combine_same vs to level level2 operator kind old old2 right right2 = longer (put_same vs to _ _ _ _)

  condition_same : (vs : Variables) (test : MaybeTerm) → SameLength (condition_code (from_level base vs) test) (condition_code (from_level other vs) test)
  condition_same vs WithoutTerm = record { same = refl }
  condition_same vs (WithTerm test) = joined (expr_same base other vs _ _ test) single

  module _ (calls calls2 : Calls) (alike : AlikeCalls calls calls2) (results : ℕ → Option IntType) (inside inside2 : ℕ → ℕ) (result : Option IntType) where
    pub right_same : (vs : Variables) (level level2 : ℕ) (called : Option HelperCall) (value : Term) (depth depth2 site site2 : ℕ)
        → SameLength (right_code calls results inside result (from_level base vs) level called value depth site) (right_code calls2 results inside2 result (from_level other vs) level2 called value depth2 site2)
    right_same vs level level2 (Some c) value depth depth2 site site2 =
        joined (terms_same base other vs level level2 c.arguments)
        (joined (record { same = alike c.name _ _ level level2 depth depth2 site site2 }) (needed_same (results c.name)))
    right_same vs level level2 None value depth depth2 site site2 = expr_same base other vs level level2 value

    call_only_statement_same : (vs : Variables) (is_wait : Bool) (function : Option BuiltIn) (name : ℕ) (arguments : Terms) (depth depth2 site site2 : ℕ)
        → SameLength (call_only_statement calls results inside result (from_level base vs) is_wait function name arguments depth site)
        (call_only_statement calls2 results inside2 result (from_level other vs) is_wait function name arguments depth2 site2)
    call_only_statement_same vs true function name arguments depth depth2 site site2 = wait_same (fences arguments) site site2 depth depth2
    call_only_statement_same vs false (Some function) name arguments depth depth2 site site2 =
        joined (terms_same base other vs _ _ arguments) (call_only_same (Some function) _ _ _ _)
    call_only_statement_same vs false None name arguments depth depth2 site site2 =
        joined (terms_same base other vs _ _ arguments) (record { same = alike name _ _ _ _ depth depth2 site site2 })

    mutual
      pub stmt_same : (vs : Variables) (s : Stmt) (depth depth2 site site2 : ℕ) (exits exits2 : Exits)
          → SameLength (stmt_code calls results inside result (from_level base vs) s depth site exits) (stmt_code calls2 results inside2 result (from_level other vs) s depth2 site2 exits2)
      stmt_same vs (Empty at) depth depth2 site site2 exits exits2 = record { same = refl }
      stmt_same vs (Block at body) depth depth2 site site2 exits exits2 = stmts_same vs body depth depth2 site site2 exits exits2
      stmt_same vs (Declare at kind name_at name) depth depth2 site site2 exits exits2 = single
      stmt_same vs (DeclareAs at kind name_at name value) depth depth2 site site2 exits exits2 =
          longer (joined (right_same (variable name kind ∷ vs) _ _ (helper_call value) value depth depth2 site site2) single)
      stmt_same vs (DeclareArray at is_local element name_at name length_at count) depth depth2 site site2 exits exits2 = array_same is_local element _ _ _ _ _
      stmt_same vs (Assign at to None value) depth depth2 site site2 exits exits2 =
          joined (target_same base other vs _ _ to) (joined (right_same vs _ _ (helper_call value) value depth depth2 site site2) (put_same vs to _ _ _ _))
      stmt_same vs (Assign at to (Some operator) value) depth depth2 site site2 exits exits2 =
          joined (target_same base other vs _ _ to)
          (joined (fetch_same vs to _ _ _ _) (joined (right_same vs _ _ (helper_call value) value depth depth2 site site2) (combine_same vs to _ _ operator _ _ _ _ _)))
      stmt_same vs (Step at to is_increment) depth depth2 site site2 exits exits2 =
          joined (target_same base other vs _ _ to) (joined (fetch_same vs to _ _ _ _) (longer (combine_same vs to _ _ (step_operator is_increment) _ _ _ _ _)))
      stmt_same vs (CallOnly at name arguments) depth depth2 site site2 exits exits2 =
          call_only_statement_same vs (is_barrier name) (built_in name) name arguments depth depth2 site site2
      stmt_same vs (If at test one) depth depth2 site site2 exits exits2 =
          if_same _ _ (expr_same base other vs _ _ test) (stmt_same vs one depth depth2 site site2 exits exits2)
      stmt_same vs (IfElse at test one two) depth depth2 site site2 exits exits2 =
          if_else_same _ _ (expr_same base other vs _ _ test) (stmt_same vs one depth depth2 site site2 _ _) (stmt_same vs two depth depth2 _ _ exits exits2)
      stmt_same vs (While at test body) depth depth2 site site2 exits exits2 =
          while_same depth depth2 (stmt_same vs body (depth + 1) (depth2 + 1) site site2 _ _) (condition_same vs (WithTerm test))
      stmt_same vs (DoWhile at body test) depth depth2 site site2 exits exits2 =
          do_same depth depth2 (stmt_same vs body (depth + 1) (depth2 + 1) site site2 _ _) (condition_same vs (WithTerm test))
      stmt_same vs (For at first test third body) depth depth2 site site2 exits exits2 =
          let inner = variables_after_part vs first in
          joined (part_same vs first depth depth2 site site2 _ _)
          (while_same depth depth2 (joined (stmt_same inner body (depth + 1) (depth2 + 1) _ _ _ _) (part_same inner third (depth + 1) (depth2 + 1) _ _ _ _)) (condition_same inner test))
      stmt_same vs (Break at) depth depth2 site site2 exits exits2 = single
      stmt_same vs (Continue at) depth depth2 site site2 exits exits2 = single
      stmt_same vs (Return at) depth depth2 site site2 exits exits2 = joined (no_value_same result) single
      stmt_same vs (ReturnValue at value) depth depth2 site site2 exits exits2 =
          joined (expr_same base other vs _ _ value) (joined (value_same result base other _ _) single)

      pub part_same : (vs : Variables) (part : MaybeStmt) (depth depth2 site site2 : ℕ) (exits exits2 : Exits)
          → SameLength (part_code calls results inside result (from_level base vs) part depth site exits) (part_code calls2 results inside2 result (from_level other vs) part depth2 site2 exits2)
      part_same vs Without depth depth2 site site2 exits exits2 = record { same = refl }
      part_same vs (With s) depth depth2 site site2 exits exits2 = stmt_same vs s depth depth2 site site2 exits exits2

      pub stmts_same : (vs : Variables) (ss : Stmts) (depth depth2 site site2 : ℕ) (exits exits2 : Exits)
          → SameLength (stmts_code calls results inside result (from_level base vs) ss depth site exits) (stmts_code calls2 results inside2 result (from_level other vs) ss depth2 site2 exits2)
      stmts_same vs NoStmt depth depth2 site site2 exits exits2 = record { same = refl }
      stmts_same vs (ThenStmt ss s) depth depth2 site site2 exits exits2 =
          joined (stmts_same vs ss depth depth2 site site2 _ _) (stmt_same (variables_after_all vs ss) s depth depth2 _ _ exits exits2)

-- the body of a function, in two ways to emit calls that are alike
pub body_alike : (calls calls2 : Calls) → AlikeCalls calls calls2 → (results : ℕ → Option IntType) (inside inside2 : ℕ → ℕ) (f : Func) (level depth site level2 depth2 site2 : ℕ)
    → length (body_code calls results inside f level depth site) ≡ length (body_code calls2 results inside2 f level2 depth2 site2)
body_alike calls calls2 alike results inside inside2 f level depth site level2 depth2 site2 =
    let body : SameLength (body_code calls results inside f level depth site) (body_code calls2 results inside2 f level2 depth2 site2) =
    joined (stmts_same level level2 calls calls2 alike results inside inside2 f.result (parameter_variables f.parameters []) f.body depth depth2 site site2 _ _) (no_value_same f.result) in
    body.same

-- the body of a function has one length, at any level and any depth of loops, and whatever its first barrier's number
-- is
pub body_length : (calls : Calls) → Steady calls → (results : ℕ → Option IntType) (inside : ℕ → ℕ) (f : Func) (level depth site level2 depth2 site2 : ℕ)
    → length (body_code calls results inside f level depth site) ≡ length (body_code calls results inside f level2 depth2 site2)
body_length calls steady results inside f = body_alike calls calls steady results inside inside f

one_of : (h : Bool) (xs ys xs2 ys2 : List Instruction) → length xs ≡ length xs2 → length ys ≡ length ys2
    → length (elim h as (λ _. List Instruction) [ true ↦ xs | false ↦ ys ]) ≡ length (elim h as (λ _. List Instruction) [ true ↦ xs2 | false ↦ ys2 ])
one_of true xs ys xs2 ys2 p q = p
one_of false xs ys xs2 ys2 p q = q

-- a helper in place of its call: one instruction for each parameter, and its body
pub placed_length : (calls : Calls) → Steady calls → (results : ℕ → Option IntType) (inside : ℕ → ℕ) (f : Func) (arguments : List ℕ) (level depth site : ℕ)
    → length (pass_code f.parameters arguments level ++ body_code calls results inside f level depth site) ≡ length f.parameters + length (body_code calls results inside f 0 0 0)
placed_length calls steady results inside f arguments level depth site =
    omega (arith, length-append (pass_code f.parameters arguments level) (body_code calls results inside f level depth site), pass_length f.parameters arguments level, body_length calls steady results inside f level depth site 0 0 0)

-- a helper's code has one length wherever it is called
pub call_length : (functions : Funcs) → Steady (call_code functions)
call_length NoFunc name arguments arguments2 level level2 depth depth2 site site2 = refl
call_length (ThenFunc earlier f) name arguments arguments2 level level2 depth depth2 site site2 =
    one_of (name == f.name) _ _ _ _
    (placed_length (call_code earlier) (call_length earlier) (result_in earlier) (sites_in earlier) f arguments level depth site
    ∙ sym (placed_length (call_code earlier) (call_length earlier) (result_in earlier) (sites_in earlier) f arguments2 level2 depth2 site2))
    (call_length earlier name arguments arguments2 level level2 depth depth2 site site2)

-- the body of a function whose helpers stand before it
pub function_length : (earlier : Funcs) (f : Func) (level depth site level2 depth2 site2 : ℕ)
    → length (body_code (call_code earlier) (result_in earlier) (sites_in earlier) f level depth site) ≡ length (body_code (call_code earlier) (result_in earlier) (sites_in earlier) f level2 depth2 site2)
function_length earlier f = body_length (call_code earlier) (call_length earlier) (result_in earlier) (sites_in earlier) f

-- the helper of a name among functions, of which it is the last that is looked at, in place of its call
pub hit_length : (gs : List Function) (i name : ℕ) (g : Function) (arguments : List ℕ) (level depth site : ℕ) → i < length gs → g ≡ get_or gs i g → name ≡ g.name
    → length (call_code (functions_of (take (i + 1) gs)) name arguments level depth site)
    ≡ length g.parameters.items + length (body_code (call_code (functions_of (take i gs))) (result_in (functions_of (take i gs))) (emission.inside (take i gs)) (func g) 0 0 0)
hit_length gs i name g arguments level depth site h p t =
    ap length (code_hit gs i name g arguments level depth site h p t)
    ∙ placed_length (call_code (functions_of (take i gs))) (call_length (functions_of (take i gs))) (result_in (functions_of (take i gs))) (emission.inside (take i gs)) (func g) arguments level depth site

-- and as it is found
pub found_length : (gs : List Function) (f : FoundFunction) (arguments : List ℕ) (level depth site : ℕ)
    → length (found_code gs (Some f) arguments level depth site)
    ≡ length f.function.now.parameters.items
    + length (body_code (call_code (functions_of (take f.place gs))) (result_in (functions_of (take f.place gs))) (emission.inside (take f.place gs)) (func f.function.now) 0 0 0)
found_length gs f arguments level depth site =
    let earlier = functions_of (take f.place gs) in
    placed_length (call_code earlier) (call_length earlier) (result_in earlier) (emission.inside (take f.place gs)) (func f.function.now) arguments level depth site
