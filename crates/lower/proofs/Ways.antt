-- The code of statements, typed or not, goes where it may, if the code of the calls in it does.
use Rattle.std.proofs.Common.{ℕ, suc, ◌+◌, ◌≤◌, Bool, true, false, max, Option, None, Some, List, [], ◌∷◌, ◌++◌, length, refl, arith}
use Rattle.std.proofs.Math.Nat.{le-max_left, le-max_right}
use Rattle.clnum.specs.declared.int_type.IntType.{IntType}
use Rattle.clnum.specs.declared.int_type.IntType.TheVariants.{Int}
use Rattle.clnum.specs.declared.operators.BinaryOperator.{BinaryOperator}
use Rattle.clmodel.specs.Barrier.{is_barrier, fences}
use Rattle.clmodel.specs.BuiltIns.{built_in}
use Rattle.clmodel.specs.Next.{is_private_array, helper_call, helper_or, is_update, step_operator, sites, part_sites, all_sites}
use Rattle.clmodel.specs.Tree as tree
use Rattle.clmodel.specs.Tree.{array_length, Term, Terms, Target, TargetVariable, TargetElement, TargetDereference, Stmt, Empty, Block, Declare, DeclareAs, DeclareArray, Assign, Step, CallOnly, If, IfElse, While, DoWhile, For, Break, Continue, Return, ReturnValue, Stmts, NoStmt, ThenStmt, MaybeStmt, Without, With, MaybeTerm, WithoutTerm, WithTerm}
use Rattle.clmodel.specs.Typing.Sizes.{Sizes, size_in, term_size, terms_size, target_size, condition_size, size, part_size, row_size}
use Rattle.clmodel.specs.declared.action.Fences.{Fences}
use Rattle.clmodel.specs.declared.setup.AtomicFunction.{AtomicFunction}
use Rattle.clmodel.specs.declared.setup.BuiltIn.{BuiltIn}
use Rattle.clmodel.specs.declared.setup.BuiltIn.TheVariants as built_in_function
use Rattle.clmodel.specs.declared.tree.VariableType.{VariableType}
use Rattle.clmodel.specs.declared.tree.VariableType.TheVariants as variable_type
use Rattle.regcode.specs.declared.instruction.Instruction.{Instruction}
use Rattle.regcode.specs.declared.instruction.Instruction.TheVariants as instruction
use Rattle.lower_expr.specs.Scope.{Scope, free_level, register_at, register_of}
use Rattle.lower_expr.specs.Expressions.{kind_named, register_for, registers_for, expr_code, terms_code, target_code, target_register, update_code, call_only_code}
use Rattle.lower_code.specs.Code.{Exits, past, body_exits, Calls, with_variable, scope_after_part, scope_after_all, needed_code, no_value_code, value_code, set_variable_code, array_code, type_of_target, fetch_code, put_code, combine_code, wait_code, condition_code, while_code, right_code, right_type, call_only_statement, stmt_code, part_code, stmts_code}
use Rattle.lower.specs.Accepted.{Flat, Sound}
use Rattle.lower.proofs.Flat.{flat_both, either_flat, variable_flat, call_flat, expression_flat, terms_flat, target_flat}
use Rattle.lower.proofs.Sound.{leads_at, sound_flat, sound_more, sound_then, sound_both, sound_exit, sound_barrier, sound_test, sound_branch, sound_sides}
use Rattle.lower.proofs.SoundLoops.{sound_do, sound_while}

set_variable_flat : (to : Option ℕ) (from : ℕ) (kind : VariableType) → Flat (set_variable_code to from kind)
set_variable_flat None from kind = (tt, tt)
set_variable_flat (Some to) from kind = (tt, tt)

put_flat : (scope : Scope) (place : Target) (pointer from : ℕ) → Flat (put_code scope place pointer from)
put_flat scope (TargetVariable at name) pointer from = set_variable_flat (register_of scope name) from (kind_named scope name)
put_flat scope (TargetElement at name index) pointer from = either_flat (is_private_array scope.variables name) _ _ (tt, tt) (tt, tt)
put_flat scope (TargetDereference at term) pointer from = (tt, tt)

fetch_flat : (scope : Scope) (place : Target) (pointer to : ℕ) → Flat (fetch_code scope place pointer to)
fetch_flat scope (TargetVariable at name) pointer to = variable_flat to (register_of scope name) name
fetch_flat scope (TargetElement at name index) pointer to = either_flat (is_private_array scope.variables name) _ _ (tt, tt) (tt, tt)
fetch_flat scope (TargetDereference at term) pointer to = (tt, tt)

combine_flat : (scope : Scope) (place : Target) (level : ℕ) (operator : BinaryOperator) (kind : VariableType) (old right : ℕ) → Flat (combine_code scope place level operator kind old right)
combine_flat scope place level operator kind old right = (tt, put_flat scope place (target_register scope level place) _)

array_flat : (is_local : Bool) (element : IntType) (count number level : ℕ) → Flat (array_code is_local element count number level)
array_flat true element count number level = (tt, tt)
array_flat false element count number level = (tt, (tt, tt))

needed_flat : (t : Option IntType) → Flat (needed_code t)
needed_flat None = (tt, tt)
needed_flat (Some t) = tt

pub no_value_flat : (t : Option IntType) → Flat (no_value_code t)
no_value_flat None = tt
no_value_flat (Some t) = (tt, tt)

value_flat : (t : Option IntType) (level from : ℕ) → Flat (value_code t level from)
value_flat None level from = tt
value_flat (Some t) level from = (tt, tt)

update_flat : (function : AtomicFunction) (numbers : List ℕ) → Flat (update_code function numbers)
update_flat function [] = (tt, tt)
update_flat function (a ∷ []) = (tt, tt)
update_flat function (a ∷ b ∷ []) = (tt, tt)
update_flat function (a ∷ b ∷ c ∷ numbers) = (tt, tt)

call_only_flat : (function : BuiltIn) (to : ℕ) (numbers : List ℕ) → Flat (call_only_code (Some function) to numbers)
call_only_flat built_in_function.WorkDim to numbers = call_flat (Some built_in_function.WorkDim) to numbers
call_only_flat (built_in_function.WorkItem function) to numbers = call_flat (Some (built_in_function.WorkItem function)) to numbers
call_only_flat (built_in_function.Integer function) to numbers = call_flat (Some (built_in_function.Integer function)) to numbers
call_only_flat (built_in_function.Atomic function) to numbers =
    either_flat (is_update function) (update_code function numbers) _ (update_flat function numbers) (call_flat (Some (built_in_function.Atomic function)) to numbers)

module _ (sizes : Sizes) (calls : Calls) (results : ℕ → Option IntType) (inside : ℕ → ℕ) (result : Option IntType)
    (calls_sound : (name : ℕ) (numbers : List ℕ) (level depth site : ℕ) (exits : Exits) → Sound (size_in sizes name).loops depth exits (calls name numbers level depth site)) where
  call_right : (scope : Scope) (level name : ℕ) (es : Terms) (depth site : ℕ) (exits : Exits) (n : ℕ) → (size_in sizes name).loops ≤ n
      → Sound n depth exits (terms_code scope level es ++ (calls name (registers_for scope level es) level depth site ++ needed_code (results name)))
  call_right scope level name es depth site exits n more =
      sound_both n depth exits (terms_code scope level es) (calls name (registers_for scope level es) level depth site ++ needed_code (results name))
      (sound_flat n depth _ (terms_code scope level es) (terms_flat scope level es))
      (sound_both n depth exits (calls name (registers_for scope level es) level depth site) (needed_code (results name))
      (sound_more (size_in sizes name).loops n depth _ _ more (calls_sound name (registers_for scope level es) level depth site _))
      (sound_flat n depth exits (needed_code (results name)) (needed_flat (results name))))

  right_case : (scope : Scope) (level a name : ℕ) (es : Terms) (depth site : ℕ) (exits : Exits) (n : ℕ) → (size_in sizes name).loops ≤ n → (f : Option BuiltIn)
      → Sound n depth exits (right_code calls results inside result scope level (helper_or f (record { name = name; arguments = es })) (tree.Call a name es) depth site)
  right_case scope level a name es depth site exits n more None = call_right scope level name es depth site exits n more
  right_case scope level a name es depth site exits n more (Some f) = sound_flat n depth exits (expr_code scope level (tree.Call a name es)) (expression_flat scope level (tree.Call a name es))

  right_sound : (scope : Scope) (level : ℕ) (e : Term) (depth site : ℕ) (exits : Exits)
      → Sound (term_size sizes e).loops depth exits (right_code calls results inside result scope level (helper_call e) e depth site)
  right_sound scope level (tree.Call a name es) depth site exits =
      right_case scope level a name es depth site exits (term_size sizes (tree.Call a name es)).loops (le-max_right (terms_size sizes es).loops (size_in sizes name).loops) (built_in name)
  right_sound scope level (tree.Number a v) depth site exits = sound_flat _ depth exits _ (expression_flat scope level (tree.Number a v))
  right_sound scope level (tree.Variable a x) depth site exits = sound_flat _ depth exits _ (expression_flat scope level (tree.Variable a x))
  right_sound scope level (tree.Element a x e) depth site exits = sound_flat _ depth exits _ (expression_flat scope level (tree.Element a x e))
  right_sound scope level (tree.ElementAddress a b x e) depth site exits = sound_flat _ depth exits _ (expression_flat scope level (tree.ElementAddress a b x e))
  right_sound scope level (tree.Dereference a e) depth site exits = sound_flat _ depth exits _ (expression_flat scope level (tree.Dereference a e))
  right_sound scope level (tree.Unary a op e) depth site exits = sound_flat _ depth exits _ (expression_flat scope level (tree.Unary a op e))
  right_sound scope level (tree.Cast a t e) depth site exits = sound_flat _ depth exits _ (expression_flat scope level (tree.Cast a t e))
  right_sound scope level (tree.Binary a op d e) depth site exits = sound_flat _ depth exits _ (expression_flat scope level (tree.Binary a op d e))
  right_sound scope level (tree.Choice a e d f) depth site exits = sound_flat _ depth exits _ (expression_flat scope level (tree.Choice a e d f))

  condition_sound : (n : ℕ) (scope : Scope) (test : MaybeTerm) (depth returned : ℕ) → Sound n depth (record { broken = 1; continued = 0; returned = returned }) (condition_code scope test)
  condition_sound n scope WithoutTerm depth returned = sound_flat n depth _ [] tt
  condition_sound n scope (WithTerm test) depth returned =
      sound_both n depth _ (expr_code scope (free_level scope) test) (instruction.JumpIfZero (register_for scope (free_level scope) test) 1 ∷ [])
      (sound_flat n depth _ (expr_code scope (free_level scope) test) (expression_flat scope (free_level scope) test))
      (sound_test n depth _ (register_for scope (free_level scope) test) refl)

  wait_sound : (n depth : ℕ) (exits : Exits) (named : Option Fences) (site : ℕ) → Sound n depth exits (wait_code named site depth)
  wait_sound n depth exits None site = sound_flat n depth exits _ (tt, tt)
  wait_sound n depth exits (Some named) site = sound_barrier n depth exits site named

  only_sound : (n : ℕ) (scope : Scope) (waits : Bool) (f : Option BuiltIn) (name : ℕ) (es : Terms) (depth site : ℕ) (exits : Exits) → (size_in sizes name).loops ≤ n
      → Sound n depth exits (call_only_statement calls results inside result scope waits f name es depth site)
  only_sound n scope true f name es depth site exits more = wait_sound n depth exits (fences es) site
  only_sound n scope false (Some f) name es depth site exits more =
      sound_flat n depth exits _ (flat_both (terms_code scope (free_level scope) es) _ (terms_flat scope (free_level scope) es) (call_only_flat f _ (registers_for scope (free_level scope) es)))
  only_sound n scope false None name es depth site exits more =
      sound_both n depth exits (terms_code scope (free_level scope) es) (calls name (registers_for scope (free_level scope) es) (free_level scope) depth site)
      (sound_flat n depth _ (terms_code scope (free_level scope) es) (terms_flat scope (free_level scope) es))
      (sound_more (size_in sizes name).loops n depth exits _ more (calls_sound name (registers_for scope (free_level scope) es) (free_level scope) depth site exits))

  mutual
    pub stmt_sound : (scope : Scope) (st : Stmt) (depth site : ℕ) (exits : Exits) → Sound (size sizes st).loops depth exits (stmt_code calls results inside result scope st depth site exits)
    stmt_sound scope (Empty at) depth site exits = sound_flat _ depth exits [] tt
    stmt_sound scope (Block at body) depth site exits = stmts_sound scope body depth site exits
    stmt_sound scope (Declare at kind name_at name) depth site exits = sound_flat _ depth exits _ (tt, tt)
    stmt_sound scope (DeclareAs at kind name_at name value) depth site exits =
        let n = (term_size sizes value).loops in
        let inner = with_variable scope name kind in
        let first = right_code calls results inside result inner (free_level scope + 1) (helper_call value) value depth site in
        let last : List Instruction = instruction.AssignConversion (register_at (free_level scope) kind) (register_at (free_level scope + 1) (right_type calls results inside result inner (helper_call value) value)) kind ∷ [] in
        sound_both n depth exits (instruction.Unset (register_at (free_level scope) kind) ∷ []) (first ++ last)
        (sound_flat n depth _ _ (tt, tt))
        (sound_both n depth exits first last (right_sound inner (free_level scope + 1) value depth site _) (sound_flat n depth exits last (tt, tt)))
    stmt_sound scope (DeclareArray at is_local element name_at name length_at count) depth site exits = sound_flat _ depth exits _ (array_flat is_local element (array_length count) (length scope.variables) (free_level scope))
    stmt_sound scope (Assign at place None value) depth site exits =
        let n = max (target_size sizes place).loops (term_size sizes value).loops in
        let level = free_level scope in
        sound_both n depth exits (target_code scope level place) _
        (sound_flat n depth _ (target_code scope level place) (target_flat scope level place))
        (sound_both n depth exits (right_code calls results inside result scope (level + 1) (helper_call value) value depth site) _
        (sound_more (term_size sizes value).loops n depth _ _ (le-max_right (target_size sizes place).loops (term_size sizes value).loops) (right_sound scope (level + 1) value depth site _))
        (sound_flat n depth exits _ (put_flat scope place (target_register scope level place) _)))
    stmt_sound scope (Assign at place (Some operator) value) depth site exits =
        let n = max (target_size sizes place).loops (term_size sizes value).loops in
        let level = free_level scope in
        sound_both n depth exits (target_code scope level place) _
        (sound_flat n depth _ (target_code scope level place) (target_flat scope level place))
        (sound_both n depth exits (fetch_code scope place (target_register scope level place) (register_at (level + 1) (type_of_target scope place))) _
        (sound_flat n depth _ _ (fetch_flat scope place (target_register scope level place) (register_at (level + 1) (type_of_target scope place))))
        (sound_both n depth exits (right_code calls results inside result scope (level + 2) (helper_call value) value depth site) _
        (sound_more (term_size sizes value).loops n depth _ _ (le-max_right (target_size sizes place).loops (term_size sizes value).loops) (right_sound scope (level + 2) value depth site _))
        (sound_flat n depth exits _ (combine_flat scope place level operator (right_type calls results inside result scope (helper_call value) value) (register_at (level + 1) (type_of_target scope place)) (register_at (level + 2) (right_type calls results inside result scope (helper_call value) value))))))
    stmt_sound scope (Step at place is_increment) depth site exits =
        let level = free_level scope in
        sound_flat _ depth exits _
        (flat_both (target_code scope level place) _ (target_flat scope level place)
        (flat_both (fetch_code scope place (target_register scope level place) (register_at (level + 1) (type_of_target scope place))) _
        (fetch_flat scope place (target_register scope level place) (register_at (level + 1) (type_of_target scope place)))
        (tt, combine_flat scope place level (step_operator is_increment) (variable_type.Integer Int) (register_at (level + 1) (type_of_target scope place)) (register_at (level + 2) (variable_type.Integer Int)))))
    stmt_sound scope (CallOnly at name arguments) depth site exits =
        only_sound (max (terms_size sizes arguments).loops (size_in sizes name).loops) scope (is_barrier name) (built_in name) name arguments depth site exits
        (le-max_right (terms_size sizes arguments).loops (size_in sizes name).loops)
    stmt_sound scope (If at test chosen) depth site exits =
        let n = max (term_size sizes test).loops (size sizes chosen).loops in
        let level = free_level scope in
        let a = stmt_code calls results inside result scope chosen depth site exits in
        sound_both n depth exits (expr_code scope level test) (instruction.JumpIfZero (register_for scope level test) (length a) ∷ a)
        (sound_flat n depth _ (expr_code scope level test) (expression_flat scope level test))
        (sound_branch n depth exits (register_for scope level test) a (sound_more (size sizes chosen).loops n depth exits a (le-max_right (term_size sizes test).loops (size sizes chosen).loops) (stmt_sound scope chosen depth site exits)))
    stmt_sound scope (IfElse at test chosen otherwise) depth site exits =
        let x = (term_size sizes test).loops in
        let y = (size sizes chosen).loops in
        let z = (size sizes otherwise).loops in
        let n = max (max x y) z in
        let p = le-max_right x y in
        let q = le-max_left (max x y) z in
        let level = free_level scope in
        let b = stmt_code calls results inside result scope otherwise depth (site + sites inside chosen) exits in
        let a = stmt_code calls results inside result scope chosen depth site (past (length b + 1) exits) in
        sound_both n depth exits (expr_code scope level test) (instruction.JumpIfZero (register_for scope level test) (length a + 1) ∷ (a ++ (instruction.Jump (length b) ∷ b)))
        (sound_flat n depth _ (expr_code scope level test) (expression_flat scope level test))
        (sound_sides n depth exits (register_for scope level test) a b
        (sound_more y n depth _ a (omega (arith, p, q)) (stmt_sound scope chosen depth site (past (length b + 1) exits)))
        (sound_more z n depth exits b (le-max_right (max x y) z) (stmt_sound scope otherwise depth (site + sites inside chosen) exits)))
    stmt_sound scope (While at test body) depth site exits =
        let n = max (term_size sizes test).loops (size sizes body).loops in
        let c = condition_code scope (WithTerm test) in
        sound_while n depth exits (stmt_code calls results inside result scope body (depth + 1) site (body_exits (length c + 1) exits)) c
        (sound_more (size sizes body).loops n (depth + 1) _ _ (le-max_right (term_size sizes test).loops (size sizes body).loops) (stmt_sound scope body (depth + 1) site (body_exits (length c + 1) exits)))
        (condition_sound n scope (WithTerm test) (depth + 1) (1 + exits.returned))
    stmt_sound scope (DoWhile at body test) depth site exits =
        let n = max (size sizes body).loops (term_size sizes test).loops in
        let c = condition_code scope (WithTerm test) in
        sound_do n depth exits (stmt_code calls results inside result scope body (depth + 1) site (body_exits (length c + 1) exits)) c
        (sound_more (size sizes body).loops n (depth + 1) _ _ (le-max_left (size sizes body).loops (term_size sizes test).loops) (stmt_sound scope body (depth + 1) site (body_exits (length c + 1) exits)))
        (condition_sound n scope (WithTerm test) (depth + 1) (1 + exits.returned))
    stmt_sound scope (For at first test third body) depth site exits =
        let inner = scope_after_part scope first in
        let c = condition_code inner test in
        let site3 = site + part_sites inside first in
        let site2 = site + part_sites inside first + part_sites inside third in
        let last = part_code calls results inside result inner third (depth + 1) site3 (body_exits (length c + 1) exits) in
        let exits2 = body_exits (length last + length c + 1) exits in
        let turn = stmt_code calls results inside result inner body (depth + 1) site2 exits2 in
        let loop = while_code depth (turn ++ last) c in
        let x = (condition_size sizes test).loops in
        let y = (part_size sizes third).loops in
        let z = (size sizes body).loops in
        let w = (part_size sizes first).loops in
        let m = max (max x y) z in
        let n = max w (suc m) in
        let p = le-max_right x y in
        let q = le-max_left (max x y) z in
        sound_both n depth exits (part_code calls results inside result scope first depth site (past (length loop) exits)) loop
        (sound_more w n depth _ _ (le-max_left w (suc m)) (part_sound scope first depth site (past (length loop) exits)))
        (sound_more (suc m) n depth exits loop (le-max_right w (suc m))
        (sound_while m depth exits (turn ++ last) c
        (sound_then m (depth + 1) exits2 (body_exits (length c + 1) exits) turn last
        (λ L middle end e leads o.
        record {
          next = leads;
          broken = leads_at L (depth + 1) (end + (length c + 1)) (middle + (length last + length c + 1)) (omega (arith, e)) o.broken;
          continued = leads_at L (depth + 1) middle (middle + 0) (omega arith) leads;
          returned = leads_at L (depth + 1) (end + (length c + 1 + exits.returned)) (middle + (length last + length c + 1 + exits.returned)) (omega (arith, e)) o.returned;
        })
        (sound_more z m (depth + 1) exits2 turn (le-max_right (max x y) z) (stmt_sound inner body (depth + 1) site2 exits2))
        (sound_more y m (depth + 1) _ last (omega (arith, p, q)) (part_sound inner third (depth + 1) site3 (body_exits (length c + 1) exits))))
        (condition_sound m inner test (depth + 1) (1 + exits.returned))))
    stmt_sound scope (Break at) depth site exits = sound_exit _ depth exits exits.broken (λ L end o. o.broken)
    stmt_sound scope (Continue at) depth site exits = sound_exit _ depth exits exits.continued (λ L end o. o.continued)
    stmt_sound scope (Return at) depth site exits =
        sound_both _ depth exits (no_value_code result) (instruction.Jump exits.returned ∷ [])
        (sound_flat _ depth _ (no_value_code result) (no_value_flat result)) (sound_exit _ depth exits exits.returned (λ L end o. o.returned))
    stmt_sound scope (ReturnValue at value) depth site exits =
        let n = (term_size sizes value).loops in
        let level = free_level scope in
        let middle = value_code result scope.base (register_for scope level value) in
        sound_both n depth exits (expr_code scope level value) (middle ++ instruction.Jump exits.returned ∷ [])
        (sound_flat n depth _ (expr_code scope level value) (expression_flat scope level value))
        (sound_both n depth exits middle (instruction.Jump exits.returned ∷ []) (sound_flat n depth _ middle (value_flat result scope.base (register_for scope level value)))
        (sound_exit n depth exits exits.returned (λ L end o. o.returned)))

    pub part_sound : (scope : Scope) (part : MaybeStmt) (depth site : ℕ) (exits : Exits) → Sound (part_size sizes part).loops depth exits (part_code calls results inside result scope part depth site exits)
    part_sound scope Without depth site exits = sound_flat _ depth exits [] tt
    part_sound scope (With statement) depth site exits = stmt_sound scope statement depth site exits

    pub stmts_sound : (scope : Scope) (body : Stmts) (depth site : ℕ) (exits : Exits) → Sound (row_size sizes body).loops depth exits (stmts_code calls results inside result scope body depth site exits)
    stmts_sound scope NoStmt depth site exits = sound_flat _ depth exits [] tt
    stmts_sound scope (ThenStmt statements statement) depth site exits =
        let x = (row_size sizes statements).loops in
        let y = (size sizes statement).loops in
        let last = stmt_code calls results inside result (scope_after_all scope statements) statement depth (site + all_sites inside statements) exits in
        sound_both (max x y) depth exits (stmts_code calls results inside result scope statements depth site (past (length last) exits)) last
        (sound_more x (max x y) depth _ _ (le-max_left x y) (stmts_sound scope statements depth site (past (length last) exits)))
        (sound_more y (max x y) depth exits last (le-max_right x y) (stmt_sound (scope_after_all scope statements) statement depth (site + all_sites inside statements) exits))
