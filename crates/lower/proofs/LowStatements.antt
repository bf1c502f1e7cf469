-- The registers that the code of typed statements names: those of levels below one that is as far above the first free
-- one as they have nodes, with the nodes of the helpers that are called.
use Rattle.std.proofs.Common.{ℕ, ◌+◌, ◌*◌, ◌<◌, ◌≤◌, ◌++◌, Bool, true, false, Option, None, Some, List, length, sym, subst, arith}
use Rattle.clnum.specs.declared.int_type.IntType.{IntType}
use Rattle.clnum.specs.declared.int_type.IntType.TheVariants.{Int}
use Rattle.clnum.specs.declared.operators.BinaryOperator.{BinaryOperator}
use Rattle.clmodel.specs.Barrier.{is_barrier, fences}
use Rattle.clmodel.specs.BuiltIns.{built_in}
use Rattle.clmodel.specs.Next.{Variables, argument_type, call_type, helper_call, step_operator, sites, part_sites}
use Rattle.clmodel.specs.Tree as tree
use Rattle.clmodel.specs.Tree.{Term, Terms, Target, MaybeTerm, WithoutTerm, WithTerm, Stmt, Stmts, NoStmt, ThenStmt, MaybeStmt, Without, With, array_length}
use Rattle.clmodel.specs.Typing.Context.{Context, Signature, bind, enter, turning, for_context, after_all}
use Rattle.clmodel.specs.Typing.Rules as rule
use Rattle.clmodel.specs.Typing.Rules.{CallsHelper, Gives, IsTyped, IsTypedPart, AreTyped}
use Rattle.clmodel.specs.Typing.Sizes.{Size, Sizes, size_in, term_size, terms_size, target_size, condition_size, size, part_size, row_size}
use Rattle.clmodel.specs.declared.action.Fences.{Fences}
use Rattle.clmodel.specs.declared.declaration.Declaration.TheVariants.{Single}
use Rattle.clmodel.specs.declared.setup.BuiltIn.{BuiltIn}
use Rattle.clmodel.specs.declared.tree.VariableType.{VariableType}
use Rattle.clmodel.specs.declared.tree.VariableType.TheVariants.{Integer}
use Rattle.regcode.specs.declared.instruction.Instruction.{Instruction}
use Rattle.lower_expr.specs.Scope.{Scope, free_level, register_at}
use Rattle.lower_expr.specs.Expressions.{kind_of, register_for, registers_for, expr_code, terms_code, target_code, target_register}
use Rattle.lower_code.specs.Code.{Exits, past, body_exits, Calls, with_variable, local_pointer, scope_after_part, scope_after_all, array_code, needed_code, no_value_code, value_code, wait_code, condition_code, type_of_target, fetch_code, right_code, right_type, call_only_statement, step_code, stmt_code, part_code, stmts_code}
use Rattle.lower_code.specs.Variables.{variables_after, variables_after_part, variables_after_all}
use Rattle.lower.proofs.Low.{Few, Low, at_low, low_both, call_only_low, some_place, expr_low, terms_low, registers_low, target_low, reached_low, fetch_low, put_low, combine_low}
use Rattle.lower.proofs.CallCode.{AreKnown, known_as, helper_of, right_is_call, statement_is_call}
use Rattle.lower.proofs.Scoped.{after_part_before, after_all_before}
use Rattle.lower_expr.proofs.Short.{some_node, few_terms}
use Rattle.lower.proofs.Suited.{built_in_is, barrier_is}
use Rattle.lower.proofs.TypedRights.{no_helper}

-- what the code of a call owes
abbrev pub LowCall : Size → List VariableType → List ℕ → ℕ → List Instruction → Type 0
LowCall size parameters numbers level code = (top : ℕ) → Few (16 * top) numbers → level + length parameters + size.nodes + 1 ≤ top → Low (16 * top) code

needed_low : (n : ℕ) (result : Option IntType) → Low n (needed_code result)
needed_low n None = (tt, tt)
needed_low n (Some kind) = tt

pub no_value_low : (n : ℕ) (result : Option IntType) → Low n (no_value_code result)
no_value_low n None = tt
no_value_low n (Some kind) = (tt, tt)

value_low : (top : ℕ) (result : Option IntType) (level from : ℕ) → level + 1 ≤ top → from < 16 * top → Low (16 * top) (value_code result level from)
value_low top None level from h k = tt
value_low top (Some kind) level from h k = ((at_low top level (Integer kind) h, (k, tt)), tt)

wait_low : (n : ℕ) (named : Option Fences) (site depth : ℕ) → Low n (wait_code named site depth)
wait_low n None site depth = (tt, tt)
wait_low n (Some f) site depth = (tt, tt)

array_low : (top : ℕ) (is_local : Bool) (t : IntType) (count number level : ℕ) → level + 1 ≤ top → Low (16 * top) (array_code is_local t count number level)
array_low top true t count number level h = ((at_low top level (local_pointer t) h, tt), tt)
array_low top false t count number level h = ((at_low top level (Integer t) h, tt), (tt, tt))

-- a statement declares no more variables than it has nodes
after_one : (sizes : Sizes) (vs : Variables) (s : Stmt) → length (variables_after vs s) ≤ length vs + (size sizes s).nodes
after_one sizes vs (tree.Declare at kind name_at name) = omega arith
after_one sizes vs (tree.DeclareAs at kind name_at name value) = omega arith
after_one sizes vs (tree.DeclareArray at true element name_at name length_at count) = omega arith
after_one sizes vs (tree.DeclareArray at false element name_at name length_at count) = omega arith
after_one sizes vs (tree.Empty at) = omega arith
after_one sizes vs (tree.Block at body) = omega arith
after_one sizes vs (tree.Assign at place operator value) = omega arith
after_one sizes vs (tree.Step at place is_increment) = omega arith
after_one sizes vs (tree.CallOnly at name arguments) = omega arith
after_one sizes vs (tree.If at test chosen) = omega arith
after_one sizes vs (tree.IfElse at test chosen otherwise) = omega arith
after_one sizes vs (tree.While at test body) = omega arith
after_one sizes vs (tree.DoWhile at body test) = omega arith
after_one sizes vs (tree.For at first test third body) = omega arith
after_one sizes vs (tree.Break at) = omega arith
after_one sizes vs (tree.Continue at) = omega arith
after_one sizes vs (tree.Return at) = omega arith
after_one sizes vs (tree.ReturnValue at value) = omega arith

pub after_part : (sizes : Sizes) (vs : Variables) (part : MaybeStmt) → length (variables_after_part vs part) ≤ length vs + (part_size sizes part).nodes
after_part sizes vs Without = omega arith
after_part sizes vs (With s) = after_one sizes vs s

pub after_row : (sizes : Sizes) (vs : Variables) (ss : Stmts) → length (variables_after_all vs ss) ≤ length vs + (row_size sizes ss).nodes
after_row sizes vs NoStmt = omega arith
after_row sizes vs (ThenStmt ss s) = omega (arith, after_row sizes vs ss, after_one sizes (variables_after_all vs ss) s)

module _ (sizes : Sizes) (top : ℕ) (calls : Calls) (results : ℕ → Option IntType) (inside : ℕ → ℕ) (result : Option IntType) where
  -- the helpers of a context are known
  abbrev pub Known : Context → Type 0
  Known c = AreKnown (λ x. LowCall (size_in sizes x)) calls results c

  condition_low : (scope : Scope) (test : MaybeTerm) → free_level scope + (condition_size sizes test).nodes + 1 ≤ top → Low (16 * top) (condition_code scope test)
  condition_low scope WithoutTerm h = tt
  condition_low scope (WithTerm e) h =
      let level = free_level scope in
      low_both (16 * top) (expr_code scope level e) _ (expr_low sizes top scope (omega (arith, h)) level e (omega (arith, h))) ((at_low top level (kind_of scope e) (omega (arith, h)), tt), tt)

  called_low : (c : Context) → Known c → (scope : Scope) → free_level scope ≤ top → (x : ℕ) (es : Terms) (s : Signature) → CallsHelper c x es s → (level depth site : ℕ)
      → level + (terms_size sizes es).nodes + (size_in sizes x).nodes + 1 ≤ top → Low (16 * top) (calls x (registers_for scope level es) level depth site)
  called_low c known scope within x es s call level depth site h =
      let count = few_terms sizes es in
      let same = call.count in
      (helper_of (λ x. LowCall (size_in sizes x)) calls results c known x es s call).code (registers_for scope level es) level depth site top (registers_low sizes top scope within level es (omega (arith, h))) (omega (arith, h, count, same))

  right_low : (c : Context) → Known c → (scope : Scope) → free_level scope ≤ top → (e : Term) (k : VariableType) → Gives c e k → (level depth site : ℕ)
      → level + (term_size sizes e).nodes ≤ top → Low (16 * top) (right_code calls results inside result scope level (helper_call e) e depth site)
  right_low c known scope within e k (rule.expression types) level depth site h =
      subst (λ o. Low (16 * top) (right_code calls results inside result scope level o e depth site)) (sym (no_helper c e k types)) (expr_low sizes top scope within level e h)
  right_low c known scope within _ _ (rule.helper {a = a} {x = x} {es = es} {s = s} {t = t} call gives) level depth site h =
      subst (Low (16 * top)) (sym (right_is_call (λ x. LowCall (size_in sizes x)) calls results inside result c known scope a x es s call level depth site))
      (low_both (16 * top) (terms_code scope level es) _ (terms_low sizes top scope within level es (omega (arith, h)))
      (low_both (16 * top) (calls x (registers_for scope level es) level depth site) _ (called_low c known scope within x es s call level depth site (omega (arith, h))) (needed_low (16 * top) (results x))))

  only_low : (waits : Bool) (f : BuiltIn) (scope : Scope) (x : ℕ) (es : Terms) (depth site : ℕ) → free_level scope + (terms_size sizes es).nodes + 1 ≤ top
      → Low (16 * top) (call_only_statement calls results inside result scope waits (Some f) x es depth site)
  only_low true f scope x es depth site h = wait_low (16 * top) (fences es) site depth
  only_low false f scope x es depth site h =
      let level = free_level scope in
      low_both (16 * top) (terms_code scope level es) _ (terms_low sizes top scope (omega (arith, h)) level es (omega (arith, h)))
      (call_only_low (16 * top) (Some f) _ _ (at_low top level (Integer (call_type (Some f) (argument_type scope.variables es))) (omega (arith, h))) (registers_low sizes top scope (omega (arith, h)) level es (omega (arith, h))))

  step_low : (scope : Scope) (place : Target) (operator : BinaryOperator) → free_level scope + (target_size sizes place).nodes + 2 ≤ top
      → Low (16 * top) (step_code calls results inside result scope (free_level scope) place operator)
  step_low scope place operator h =
      let level = free_level scope in
      let x = some_place sizes place in
      let within : free_level scope ≤ top = omega (arith, h) in
      let old = at_low top (level + 1) (type_of_target scope place) (omega (arith, h)) in
      let one = at_low top (level + 2) (Integer Int) (omega (arith, h, x)) in
      low_both (16 * top) (target_code scope level place) _ (target_low sizes top scope within level place (omega (arith, h)))
      (low_both (16 * top) (fetch_code scope place (target_register scope level place) (register_at (level + 1) (type_of_target scope place))) _
      (fetch_low sizes top scope within place _ _ (reached_low sizes top scope within level place (omega (arith, h))) old)
      ((one, tt), combine_low sizes top scope within place level operator (Integer Int) _ _ (omega (arith, h)) old one))

  mutual
    pub stmt_low : (c : Context) (s : Stmt) → IsTyped c s → (scope : Scope) → Known c → (depth site : ℕ) (exits : Exits) → free_level scope + (size sizes s).nodes + 1 ≤ top
        → Low (16 * top) (stmt_code calls results inside result scope s depth site exits)
    stmt_low _ _ rule.empty scope known depth site exits h = tt
    stmt_low _ _ (rule.block {c = c} {ss = ss} body) scope known depth site exits h = stmts_low (enter c) ss body scope known depth site exits (omega (arith, h))
    stmt_low _ _ (rule.declare {k = k} free) scope known depth site exits h = ((at_low top (free_level scope) k (omega (arith, h)), tt), tt)
    stmt_low _ _ (rule.declare_as {c = c} {x = x} {k = k} {j = j} {e = e} free gives passes) scope known depth site exits h =
        let level = free_level scope in
        let n = some_node sizes e in
        let inner = with_variable scope x k in
        let to = at_low top level k (omega (arith, h)) in (
          (to, tt),
          low_both (16 * top) (right_code calls results inside result inner (level + 1) (helper_call e) e depth site) _
              (right_low (bind c x (Single k)) known inner (omega (arith, h)) e j gives (level + 1) depth site (omega (arith, h)))
              ((to, (at_low top (level + 1) (right_type calls results inside result inner (helper_call e) e) (omega (arith, h)), tt)), tt),
        )
    stmt_low _ _ (rule.declare_array {is_local = is_local} {t = t} {n = n} free outermost some few) scope known depth site exits h =
        array_low top is_local t (array_length n) (length scope.variables) (free_level scope) (omega (arith, h))
    stmt_low _ _ (rule.assign {c = c} {p = p} {e = e} {k = k} {j = j} place gives passes) scope known depth site exits h =
        let level = free_level scope in
        let within : free_level scope ≤ top = omega (arith, h) in
        low_both (16 * top) (target_code scope level p) _ (target_low sizes top scope within level p (omega (arith, h)))
        (low_both (16 * top) (right_code calls results inside result scope (level + 1) (helper_call e) e depth site) _
        (right_low c known scope within e j gives (level + 1) depth site (omega (arith, h)))
        (put_low sizes top scope within p _ _ (reached_low sizes top scope within level p (omega (arith, h))) (at_low top (level + 1) (right_type calls results inside result scope (helper_call e) e) (omega (arith, h)))))
    stmt_low _ _ (rule.assign_by {c = c} {p = p} {op = op} {e = e} {k = k} {j = j} {r = r} place gives operates passes) scope known depth site exits h =
        let level = free_level scope in
        let n = some_node sizes e in
        let within : free_level scope ≤ top = omega (arith, h) in
        let old = at_low top (level + 1) (type_of_target scope p) (omega (arith, h)) in
        low_both (16 * top) (target_code scope level p) _ (target_low sizes top scope within level p (omega (arith, h)))
        (low_both (16 * top) (fetch_code scope p (target_register scope level p) (register_at (level + 1) (type_of_target scope p))) _
        (fetch_low sizes top scope within p _ _ (reached_low sizes top scope within level p (omega (arith, h))) old)
        (low_both (16 * top) (right_code calls results inside result scope (level + 2) (helper_call e) e depth site) _
        (right_low c known scope within e j gives (level + 2) depth site (omega (arith, h)))
        (combine_low sizes top scope within p level op (right_type calls results inside result scope (helper_call e) e) _ _ (omega (arith, h)) old
        (at_low top (level + 2) (right_type calls results inside result scope (helper_call e) e) (omega (arith, h, n))))))
    stmt_low _ _ (rule.step {c = c} {p = p} {is_increment = is_increment} {k = k} place) scope known depth site exits h =
        step_low scope p (step_operator is_increment) (omega (arith, h))
    stmt_low _ _ (rule.call_only {c = c} {a = a} {x = x} {f = f} {es = es} {ks = ks} {r = r} is arguments by) scope known depth site exits h =
        subst (λ g. Low (16 * top) (call_only_statement calls results inside result scope (is_barrier x) g x es depth site)) (sym (built_in_is c x f is))
        (only_low (is_barrier x) f scope x es depth site (omega (arith, h)))
    stmt_low _ _ (rule.barrier {c = c} {a = a} {x = x} {es = es} is named) scope known depth site exits h =
        subst (λ b. Low (16 * top) (call_only_statement calls results inside result scope b (built_in x) x es depth site)) (sym (barrier_is c x is))
        (wait_low (16 * top) (fences es) site depth)
    stmt_low _ _ (rule.call_helper {c = c} {a = a} {x = x} {es = es} {s = s} call) scope known depth site exits h =
        let level = free_level scope in
        let within : free_level scope ≤ top = omega (arith, h) in
        subst (Low (16 * top)) (sym (statement_is_call (λ x. LowCall (size_in sizes x)) calls results inside result c known scope x es s call depth site))
        (low_both (16 * top) (terms_code scope level es) _ (terms_low sizes top scope within level es (omega (arith, h))) (called_low c known scope within x es s call level depth site (omega (arith, h))))
    stmt_low _ _ (rule.if {c = c} {e = e} {s = s} {t = t} test chosen) scope known depth site exits h =
        let level = free_level scope in
        low_both (16 * top) (expr_code scope level e) _ (expr_low sizes top scope (omega (arith, h)) level e (omega (arith, h)))
        ((at_low top level (kind_of scope e) (omega (arith, h)), tt), stmt_low (enter c) s chosen scope known depth site exits (omega (arith, h)))
    stmt_low _ _ (rule.if_else {c = c} {e = e} {s = s} {r = r} {t = t} test chosen otherwise) scope known depth site exits h =
        let level = free_level scope in
        let b = stmt_code calls results inside result scope r depth (site + sites inside s) exits in
        let a = stmt_code calls results inside result scope s depth site (past (length b + 1) exits) in
        low_both (16 * top) (expr_code scope level e) _ (expr_low sizes top scope (omega (arith, h)) level e (omega (arith, h))) (
          (at_low top level (kind_of scope e) (omega (arith, h)), tt),
          low_both (16 * top) a _ (stmt_low (enter c) s chosen scope known depth site (past (length b + 1) exits) (omega (arith, h)))
              (tt, stmt_low (enter c) r otherwise scope known depth (site + sites inside s) exits (omega (arith, h))),
        )
    stmt_low _ _ (rule.while {c = c} {e = e} {s = s} test body) scope known depth site exits h =
        let condition = condition_code scope (WithTerm e) in
        let turn = stmt_code calls results inside result scope s (depth + 1) site (body_exits (length condition + 1) exits) in (
          tt,
          (
            tt,
            (
              tt,
              low_both (16 * top) turn _ (stmt_low (turning c) s body scope known (depth + 1) site (body_exits (length condition + 1) exits) (omega (arith, h)))
                  (low_both (16 * top) condition _ (condition_low scope (WithTerm e) (omega (arith, h))) (tt, tt)),
            ),
          ),
        )
    stmt_low _ _ (rule.do_while {c = c} {e = e} {s = s} body test) scope known depth site exits h =
        let condition = condition_code scope (WithTerm e) in
        let turn = stmt_code calls results inside result scope s (depth + 1) site (body_exits (length condition + 1) exits) in (
          tt,
          (
            tt,
            low_both (16 * top) turn _ (stmt_low (turning c) s body scope known (depth + 1) site (body_exits (length condition + 1) exits) (omega (arith, h)))
                (low_both (16 * top) condition _ (condition_low scope (WithTerm e) (omega (arith, h))) (tt, tt)),
          ),
        )
    stmt_low _ _ (rule.for {c = c} {first = first} {third = third} {e = e} {s = s} begun test after body) scope known depth site exits h =
        let around = for_context c first in
        let inner = scope_after_part scope first in
        let more = after_part sizes scope.variables first in
        let within_known : Known around = known_as (λ x. LowCall (size_in sizes x)) calls results c around (after_part_before (enter c) first) known in
        let condition = condition_code inner e in
        let exits3 = body_exits (length condition + 1) exits in
        let last = part_code calls results inside result inner third (depth + 1) (site + part_sites inside first) exits3 in
        let exits2 = body_exits (length last + length condition + 1) exits in
        let turn = stmt_code calls results inside result inner s (depth + 1) (site + part_sites inside first + part_sites inside third) exits2 in
        low_both (16 * top) (part_code calls results inside result scope first depth site _) _ (part_low (enter c) first begun scope known depth site _ (omega (arith, h))) (
          tt,
          (
            tt,
            (
              tt,
              low_both (16 * top) (turn ++ last) _
                  (low_both (16 * top) turn last (stmt_low (turning around) s body inner within_known (depth + 1) _ exits2 (omega (arith, h, more)))
                  (part_low (enter around) third after inner within_known (depth + 1) _ exits3 (omega (arith, h, more))))
                  (low_both (16 * top) condition _ (condition_low inner e (omega (arith, h, more))) (tt, tt)),
            ),
          ),
        )
    stmt_low _ _ (rule.break loop) scope known depth site exits h = (tt, tt)
    stmt_low _ _ (rule.continue loop) scope known depth site exits h = (tt, tt)
    stmt_low _ _ (rule.return none) scope known depth site exits h = low_both (16 * top) (no_value_code result) _ (no_value_low (16 * top) result) (tt, tt)
    stmt_low _ _ (rule.return_value {c = c} {e = e} {u = u} some value) scope known depth site exits h =
        let level = free_level scope in
        low_both (16 * top) (expr_code scope level e) _ (expr_low sizes top scope (omega (arith, h)) level e (omega (arith, h)))
        (low_both (16 * top) (value_code result scope.base (register_for scope level e)) _ (value_low top result scope.base _ (omega (arith, h)) (at_low top level (kind_of scope e) (omega (arith, h)))) (tt, tt))

    pub part_low : (c : Context) (part : MaybeStmt) → IsTypedPart c part → (scope : Scope) → Known c → (depth site : ℕ) (exits : Exits) → free_level scope + (part_size sizes part).nodes + 1 ≤ top
        → Low (16 * top) (part_code calls results inside result scope part depth site exits)
    part_low _ _ rule.without scope known depth site exits h = tt
    part_low _ _ (rule.part {c = c} {s = s} typed) scope known depth site exits h = stmt_low c s typed scope known depth site exits h

    pub stmts_low : (c : Context) (ss : Stmts) → AreTyped c ss → (scope : Scope) → Known c → (depth site : ℕ) (exits : Exits) → free_level scope + (row_size sizes ss).nodes + 1 ≤ top
        → Low (16 * top) (stmts_code calls results inside result scope ss depth site exits)
    stmts_low _ _ rule.no_statement scope known depth site exits h = tt
    stmts_low _ _ (rule.statement {c = c} {ss = ss} {s = s} statements last) scope known depth site exits h =
        let more = after_row sizes scope.variables ss in
        low_both (16 * top) (stmts_code calls results inside result scope ss depth site _) _ (stmts_low c ss statements scope known depth site _ (omega (arith, h)))
        (stmt_low (after_all c ss) s last (scope_after_all scope ss) (known_as (λ x. LowCall (size_in sizes x)) calls results c (after_all c ss) (after_all_before c ss) known) depth _ exits (omega (arith, h, more)))
