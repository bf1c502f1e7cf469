-- How many instructions the code of typed statements has: seven a node at most, with the nodes of the helpers that are
-- called.
use Rattle.std.proofs.Common.{ℕ, ◌+◌, ◌*◌, ◌≤◌, Bool, true, false, Option, Some, List, length, sym, subst, arith}
use Rattle.clnum.specs.declared.int_type.IntType.{IntType}
use Rattle.clmodel.specs.Barrier.{is_barrier, fences}
use Rattle.clmodel.specs.BuiltIns.{built_in}
use Rattle.clmodel.specs.Next.{helper_call, step_operator}
use Rattle.clmodel.specs.Tree as tree
use Rattle.clmodel.specs.Tree.{Term, Terms, Target, MaybeTerm, WithoutTerm, WithTerm, Stmt, Stmts, MaybeStmt, array_length}
use Rattle.clmodel.specs.Typing.Context.{Context, Signature, bind, enter, turning, for_context, after_all}
use Rattle.clmodel.specs.Typing.Rules as rule
use Rattle.clmodel.specs.Typing.Rules.{CallsHelper, Gives, IsTyped, IsTypedPart, AreTyped}
use Rattle.clmodel.specs.Typing.Sizes.{Size, Sizes, size_in, term_size, terms_size, size, part_size, row_size}
use Rattle.clmodel.specs.declared.declaration.Declaration.TheVariants.{Single}
use Rattle.clmodel.specs.declared.setup.BuiltIn.{BuiltIn}
use Rattle.clmodel.specs.declared.tree.VariableType.{VariableType}
use Rattle.regcode.specs.declared.instruction.Instruction.{Instruction}
use Rattle.lower_expr.specs.Scope.{Scope, free_level}
use Rattle.lower_expr.specs.Expressions.{registers_for}
use Rattle.lower_code.specs.Code.{Exits, Calls, with_variable, scope_after_part, scope_after_all, right_code, call_only_statement, stmt_code, part_code, stmts_code}
use Rattle.lower.proofs.CallCode.{AreKnown, known_as, helper_of, right_is_call, statement_is_call}
use Rattle.lower.proofs.Scoped.{after_part_before, after_all_before}
use Rattle.lower_expr.proofs.Short.{Short, none, single, more, both, within, expr_short, terms_short, target_short, call_only_short, few_terms, fetch_short, put_short, combine_short}
use Rattle.lower_code.proofs.Short.{needed_short, no_value_short, value_short, wait_short, array_short, condition_short, step_short}
use Rattle.lower.proofs.Suited.{built_in_is, barrier_is}
use Rattle.lower.proofs.TypedRights.{no_helper}

-- what the code of a call owes
abbrev pub ShortCall : Size → List VariableType → List ℕ → ℕ → List Instruction → Type 0
ShortCall size parameters numbers level code = Short (7 * size.nodes + length parameters + 1) code

module _ (sizes : Sizes) (calls : Calls) (results : ℕ → Option IntType) (inside : ℕ → ℕ) (result : Option IntType) where
  -- the helpers of a context are known
  abbrev pub Known : Context → Type 0
  Known c = AreKnown (λ x. ShortCall (size_in sizes x)) calls results c

  -- the arguments of a call, and the helper in its place
  called_short : (c : Context) → Known c → (scope : Scope) (x : ℕ) (es : Terms) (s : Signature) → CallsHelper c x es s → (numbers : List ℕ) (level depth site : ℕ)
      → Short (7 * (size_in sizes x).nodes + (terms_size sizes es).nodes + 1) (calls x numbers level depth site)
  called_short c known scope x es s call numbers level depth site =
      let count = few_terms sizes es in
      let same = call.count in
      within ((helper_of (λ x. ShortCall (size_in sizes x)) calls results c known x es s call).code numbers level depth site) (omega (arith, count, same))

  right_short : (c : Context) → Known c → (scope : Scope) (e : Term) (k : VariableType) → Gives c e k → (level depth site : ℕ)
      → Short (7 * (term_size sizes e).nodes) (right_code calls results inside result scope level (helper_call e) e depth site)
  right_short c known scope e k (rule.expression types) level depth site =
      subst (λ h. Short (7 * (term_size sizes e).nodes) (right_code calls results inside result scope level h e depth site)) (sym (no_helper c e k types))
      (within (expr_short sizes scope level e) (omega arith))
  right_short c known scope _ _ (rule.helper {a = a} {x = x} {es = es} {s = s} {t = t} call gives) level depth site =
      let numbers = registers_for scope level es in
      subst (Short (7 * (term_size sizes (tree.Call a x es)).nodes)) (sym (right_is_call (λ x. ShortCall (size_in sizes x)) calls results inside result c known scope a x es s call level depth site))
      (within (both (terms_short sizes scope level es) (both (called_short c known scope x es s call numbers level depth site) (needed_short (results x)))) (omega arith))

  only_short : (waits : Bool) (f : BuiltIn) (scope : Scope) (x : ℕ) (es : Terms) (depth site : ℕ)
      → Short (6 * (terms_size sizes es).nodes + 1) (call_only_statement calls results inside result scope waits (Some f) x es depth site)
  only_short true f scope x es depth site = within (wait_short (fences es) site depth) (omega arith)
  only_short false f scope x es depth site = both (terms_short sizes scope (free_level scope) es) (call_only_short (Some f) _ _)

  mutual
    pub stmt_short : (c : Context) (s : Stmt) → IsTyped c s → (scope : Scope) → Known c → (depth site : ℕ) (exits : Exits)
        → Short (7 * (size sizes s).nodes) (stmt_code calls results inside result scope s depth site exits)
    stmt_short _ _ rule.empty scope known depth site exits = within none (omega arith)
    stmt_short _ _ (rule.block {c = c} {ss = ss} body) scope known depth site exits = within (stmts_short (enter c) ss body scope known depth site exits) (omega arith)
    stmt_short _ _ (rule.declare {k = k} free) scope known depth site exits = within single (omega arith)
    stmt_short _ _ (rule.declare_as {c = c} {x = x} {k = k} {j = j} {e = e} free gives passes) scope known depth site exits =
        within (more (both (right_short (bind c x (Single k)) known (with_variable scope x k) e j gives (free_level scope + 1) depth site) single)) (omega arith)
    stmt_short _ _ (rule.declare_array {is_local = is_local} {t = t} {n = n} free outermost some few) scope known depth site exits =
        within (array_short is_local t (array_length n) (length scope.variables) (free_level scope)) (array_fits is_local)
      where
        array_fits : (is_local : Bool) → 2 ≤ 7 * (size sizes (tree.DeclareArray 0 is_local t 0 0 0 n)).nodes
        array_fits true = omega arith
        array_fits false = omega arith
    stmt_short _ _ (rule.assign {c = c} {p = p} {e = e} {k = k} {j = j} place gives passes) scope known depth site exits =
        within (both (target_short sizes scope (free_level scope) p) (both (right_short c known scope e j gives (free_level scope + 1) depth site) (put_short scope p _ _))) (omega arith)
    stmt_short _ _ (rule.assign_by {c = c} {p = p} {op = op} {e = e} {k = k} {j = j} {r = r} place gives operates passes) scope known depth site exits =
        within (both (target_short sizes scope (free_level scope) p) (both (fetch_short scope p _ _) (both (right_short c known scope e j gives (free_level scope + 2) depth site) (combine_short scope p _ op _ _ _)))) (omega arith)
    stmt_short _ _ (rule.step {c = c} {p = p} {is_increment = is_increment} {k = k} place) scope known depth site exits =
        within (step_short sizes scope calls results inside result (free_level scope) p (step_operator is_increment)) (omega arith)
    stmt_short _ _ (rule.call_only {c = c} {a = a} {x = x} {f = f} {es = es} {ks = ks} {r = r} is arguments by) scope known depth site exits =
        subst (λ g. Short (7 * (size sizes (tree.CallOnly a x es)).nodes) (call_only_statement calls results inside result scope (is_barrier x) g x es depth site)) (sym (built_in_is c x f is))
        (within (only_short (is_barrier x) f scope x es depth site) (omega arith))
    stmt_short _ _ (rule.barrier {c = c} {a = a} {x = x} {es = es} is named) scope known depth site exits =
        subst (λ b. Short (7 * (size sizes (tree.CallOnly a x es)).nodes) (call_only_statement calls results inside result scope b (built_in x) x es depth site)) (sym (barrier_is c x is))
        (within (wait_short (fences es) site depth) (omega arith))
    stmt_short _ _ (rule.call_helper {c = c} {a = a} {x = x} {es = es} {s = s} call) scope known depth site exits =
        let level = free_level scope in
        subst (Short (7 * (size sizes (tree.CallOnly a x es)).nodes)) (sym (statement_is_call (λ x. ShortCall (size_in sizes x)) calls results inside result c known scope x es s call depth site))
        (within (both (terms_short sizes scope level es) (called_short c known scope x es s call (registers_for scope level es) level depth site)) (omega arith))
    stmt_short _ _ (rule.if {c = c} {e = e} {s = s} {t = t} test chosen) scope known depth site exits =
        within (both (expr_short sizes scope (free_level scope) e) (more (stmt_short (enter c) s chosen scope known depth site exits))) (omega arith)
    stmt_short _ _ (rule.if_else {c = c} {e = e} {s = s} {r = r} {t = t} test chosen otherwise) scope known depth site exits =
        within (both (expr_short sizes scope (free_level scope) e) (more (both (stmt_short (enter c) s chosen scope known depth site _) (more (stmt_short (enter c) r otherwise scope known depth _ exits))))) (omega arith)
    stmt_short _ _ (rule.while {c = c} {e = e} {s = s} test body) scope known depth site exits =
        within (more (more (more (both (stmt_short (turning c) s body scope known (depth + 1) site _) (both (condition_short sizes scope (WithTerm e)) single))))) (omega arith)
    stmt_short _ _ (rule.do_while {c = c} {e = e} {s = s} body test) scope known depth site exits =
        within (more (more (both (stmt_short (turning c) s body scope known (depth + 1) site _) (both (condition_short sizes scope (WithTerm e)) single)))) (omega arith)
    stmt_short _ _ (rule.for {c = c} {first = first} {third = third} {e = e} {s = s} begun test after body) scope known depth site exits =
        let around = for_context c first in
        let inner = scope_after_part scope first in
        let within_known : Known around = known_as (λ x. ShortCall (size_in sizes x)) calls results c around (after_part_before (enter c) first) known in
        within (both (part_short (enter c) first begun scope known depth site _)
        (more (more (more (both (both (stmt_short (turning around) s body inner within_known (depth + 1) _ _) (part_short (enter around) third after inner within_known (depth + 1) _ _))
        (both (condition_short sizes inner e) single)))))) (omega arith)
    stmt_short _ _ (rule.break loop) scope known depth site exits = within single (omega arith)
    stmt_short _ _ (rule.continue loop) scope known depth site exits = within single (omega arith)
    stmt_short _ _ (rule.return none) scope known depth site exits = within (both (no_value_short result) single) (omega arith)
    stmt_short _ _ (rule.return_value {c = c} {e = e} {u = u} some value) scope known depth site exits =
        within (both (expr_short sizes scope (free_level scope) e) (both (value_short result scope.base _) single)) (omega arith)

    pub part_short : (c : Context) (part : MaybeStmt) → IsTypedPart c part → (scope : Scope) → Known c → (depth site : ℕ) (exits : Exits)
        → Short (7 * (part_size sizes part).nodes) (part_code calls results inside result scope part depth site exits)
    part_short _ _ rule.without scope known depth site exits = within none (omega arith)
    part_short _ _ (rule.part {c = c} {s = s} typed) scope known depth site exits = stmt_short c s typed scope known depth site exits

    pub stmts_short : (c : Context) (ss : Stmts) → AreTyped c ss → (scope : Scope) → Known c → (depth site : ℕ) (exits : Exits)
        → Short (7 * (row_size sizes ss).nodes) (stmts_code calls results inside result scope ss depth site exits)
    stmts_short _ _ rule.no_statement scope known depth site exits = within none (omega arith)
    stmts_short _ _ (rule.statement {c = c} {ss = ss} {s = s} statements last) scope known depth site exits =
        within (both (stmts_short c ss statements scope known depth site _)
        (stmt_short (after_all c ss) s last (scope_after_all scope ss) (known_as (λ x. ShortCall (size_in sizes x)) calls results c (after_all c ss) (after_all_before c ss) known) depth _ exits)) (omega arith)
