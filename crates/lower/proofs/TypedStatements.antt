-- The code of typed statements names registers of the kinds that its instructions want.
use Rattle.std.proofs.Common.{ℕ, ◌+◌, ◌++◌, Bool, true, false, Option, List, [], ◌∷◌, length}
use Rattle.clnum.specs.declared.int_type.IntType.{IntType}
use Rattle.clmodel.specs.Next.{helper_call, sites, part_sites, all_sites}
use Rattle.clmodel.specs.Tree.{array_length, Stmt, Stmts, MaybeStmt, WithTerm}
use Rattle.clmodel.specs.Typing.Context.{Context, bind, enter, turning, for_context, after_all}
use Rattle.clmodel.specs.Typing.Rules as rule
use Rattle.clmodel.specs.Typing.Rules.{IsTyped, IsTypedPart, AreTyped}
use Rattle.clmodel.specs.declared.declaration.Declaration.TheVariants.{Single}
use Rattle.clmodel.specs.declared.tree.VariableType.{VariableType}
use Rattle.clmodel.specs.declared.tree.VariableType.TheVariants.{Integer}
use Rattle.regcode.specs.declared.instruction.Instruction.TheVariants as instruction
use Rattle.lower_expr.specs.Scope.{Scope, register_at, free_level}
use Rattle.lower_expr.specs.Expressions.{kind_of, register_for, expr_code}
use Rattle.lower_code.specs.Code.{Exits, past, body_exits, with_variable, local_pointer, array_code, scope_after_part, scope_after_all, Calls, no_value_code, value_code, condition_code, while_code, right_code, right_type, stmt_code, part_code, stmts_code}
use Rattle.lower.specs.Accepted.{Matches, Suit}
use Rattle.lower.proofs.Suiting.{is_at, is_as, suit_both, unset_suits, hold_suits, local_suits, unset_array_suits, branch_suits}
use Rattle.lower.proofs.Suited.{type_is, expression_suits}
use Rattle.lower.proofs.Scoped.{matches_bind, matches_part, matches_all, after_part_before, after_all_before}
use Rattle.lower.proofs.CallCode.{AreKnown, known_as}
use Rattle.lower.proofs.TypedRights.{SuitCall, no_value_suits, value_suits, turn_suits, condition_suits, step_suits, only_suits, only_barrier_suits, only_helper_suits, right_is, right_suits, assign_suits, compound_suits}

module _ (parameters : List VariableType) (calls : Calls) (results : ℕ → Option IntType) (inside : ℕ → ℕ) (result : Option IntType) where
  -- the helpers of a context are known
  abbrev pub Known : Context → Type 0
  Known c = AreKnown (λ x. SuitCall parameters) calls results c

  array_suits : (is_local : Bool) (t : IntType) (count number level : ℕ) → Suit parameters (array_code is_local t count number level)
  array_suits true t count number level = (local_suits parameters (register_at level (local_pointer t)) number t (is_at level (local_pointer t)), tt)
  array_suits false t count number level = (unset_suits parameters (register_at level (Integer t)), (unset_array_suits parameters level count, tt))

  mutual
    pub stmt_suits : (c : Context) (s : Stmt) → IsTyped c s → (scope : Scope) → Matches c scope → Known c → (depth site : ℕ) (exits : Exits)
        → Suit parameters (stmt_code calls results inside result scope s depth site exits)
    stmt_suits _ _ rule.empty scope m known depth site exits = tt
    stmt_suits _ _ (rule.block {c = c} {ss = ss} body) scope m known depth site exits = stmts_suit (enter c) ss body scope m known depth site exits
    stmt_suits _ _ (rule.declare {k = k} free) scope m known depth site exits = (unset_suits parameters (register_at (free_level scope) k), tt)
    stmt_suits _ _ (rule.declare_as {c = c} {x = x} {k = k} {j = j} {e = e} free gives passes) scope m known depth site exits =
        let level = free_level scope in
        let inner = with_variable scope x k in
        let within = matches_bind c scope x k free m in
        let kind = right_type calls results inside result inner (helper_call e) e in (
          unset_suits parameters (register_at level k),
          suit_both parameters (right_code calls results inside result inner (level + 1) (helper_call e) e depth site) _
              (right_suits (bind c x (Single k)) inner within parameters calls results inside result known (level + 1) e j gives depth site) (
                hold_suits parameters (register_at level k) (register_at (level + 1) kind) k j (is_at level k)
                    (is_as (level + 1) kind j (right_is (bind c x (Single k)) inner within parameters calls results inside result known e j gives)) passes,
                tt,
              ),
        )
    stmt_suits _ _ (rule.declare_array {is_local = is_local} {t = t} {n = n} free outermost some few) scope m known depth site exits =
        array_suits is_local t (array_length n) (length scope.variables) (free_level scope)
    stmt_suits _ _ (rule.assign {c = c} {p = p} {e = e} {k = k} {j = j} place gives passes) scope m known depth site exits =
        assign_suits c scope m parameters calls results inside result known (free_level scope) p e k j place gives passes depth site
    stmt_suits _ _ (rule.assign_by {c = c} {p = p} {op = op} {e = e} {k = k} {j = j} {r = r} place gives operates passes) scope m known depth site exits =
        compound_suits c scope m parameters calls results inside result known (free_level scope) p op e k j r place gives operates passes depth site
    stmt_suits _ _ (rule.step {c = c} {p = p} {is_increment = is_increment} {k = k} place) scope m known depth site exits =
        step_suits c scope m parameters (free_level scope) p is_increment k calls results inside result place
    stmt_suits _ _ (rule.call_only {c = c} {x = x} {f = f} {es = es} {ks = ks} {r = r} is arguments by) scope m known depth site exits =
        only_suits c scope m parameters calls results inside result f x es ks r is arguments by depth site
    stmt_suits _ _ (rule.barrier {c = c} {x = x} {es = es} is named) scope m known depth site exits =
        only_barrier_suits c scope m parameters calls results inside result x es is depth site
    stmt_suits _ _ (rule.call_helper {c = c} {x = x} {es = es} {s = s} call) scope m known depth site exits =
        only_helper_suits c scope m parameters calls results inside result known x es s call depth site
    stmt_suits _ _ (rule.if {c = c} {e = e} {s = s} {t = t} test chosen) scope m known depth site exits =
        let level = free_level scope in
        let a = stmt_code calls results inside result scope s depth site exits in
        suit_both parameters (expr_code scope level e) (instruction.JumpIfZero (register_for scope level e) (length a) ∷ a) (expression_suits c scope m parameters level e (Integer t) test) (
          branch_suits parameters (register_for scope level e) (length a) t (is_as level (kind_of scope e) (Integer t) (type_is c scope m e (Integer t) test)),
          stmt_suits (enter c) s chosen scope m known depth site exits,
        )
    stmt_suits _ _ (rule.if_else {c = c} {e = e} {s = s} {r = r} {t = t} test chosen otherwise) scope m known depth site exits =
        let level = free_level scope in
        let b = stmt_code calls results inside result scope r depth (site + sites inside s) exits in
        let a = stmt_code calls results inside result scope s depth site (past (length b + 1) exits) in
        suit_both parameters (expr_code scope level e) (instruction.JumpIfZero (register_for scope level e) (length a + 1) ∷ (a ++ (instruction.Jump (length b) ∷ b)))
        (expression_suits c scope m parameters level e (Integer t) test) (
          branch_suits parameters (register_for scope level e) (length a + 1) t (is_as level (kind_of scope e) (Integer t) (type_is c scope m e (Integer t) test)),
          suit_both parameters a (instruction.Jump (length b) ∷ b) (stmt_suits (enter c) s chosen scope m known depth site (past (length b + 1) exits))
              ((λ code same wide. tt), stmt_suits (enter c) r otherwise scope m known depth (site + sites inside s) exits),
        )
    stmt_suits _ _ (rule.while {c = c} {e = e} {s = s} test body) scope m known depth site exits =
        let condition = condition_code scope (WithTerm e) in
        let inner = body_exits (length condition + 1) exits in (
          (λ code same wide. tt),
          (
            (λ code same wide. tt),
            turn_suits parameters depth (stmt_code calls results inside result scope s (depth + 1) site inner) condition (stmt_suits (turning c) s body scope m known (depth + 1) site inner)
                (condition_suits c scope m parameters (WithTerm e) (rule.condition test)),
          ),
        )
    stmt_suits _ _ (rule.do_while {c = c} {e = e} {s = s} body test) scope m known depth site exits =
        let condition = condition_code scope (WithTerm e) in
        let inner = body_exits (length condition + 1) exits in (
          (λ code same wide. tt),
          turn_suits parameters depth (stmt_code calls results inside result scope s (depth + 1) site inner) condition (stmt_suits (turning c) s body scope m known (depth + 1) site inner)
              (condition_suits c scope m parameters (WithTerm e) (rule.condition test)),
        )
    stmt_suits _ _ (rule.for {c = c} {first = first} {third = third} {e = e} {s = s} begun test after body) scope m known depth site exits =
        let around = for_context c first in
        let inner = scope_after_part scope first in
        let within = matches_part (enter c) scope first begun m in
        let known_within : Known around = known_as (λ x. SuitCall parameters) calls results c around (after_part_before (enter c) first) known in
        let condition = condition_code inner e in
        let site3 = site + part_sites inside first in
        let site2 = site + part_sites inside first + part_sites inside third in
        let exits3 = body_exits (length condition + 1) exits in
        let last = part_code calls results inside result inner third (depth + 1) site3 exits3 in
        let exits2 = body_exits (length last + length condition + 1) exits in
        let turn = stmt_code calls results inside result inner s (depth + 1) site2 exits2 in
        let loop = while_code depth (turn ++ last) condition in
        suit_both parameters (part_code calls results inside result scope first depth site (past (length loop) exits)) loop
        (part_suits (enter c) first begun scope m known depth site (past (length loop) exits)) (
          (λ code same wide. tt),
          (
            (λ code same wide. tt),
            turn_suits parameters depth (turn ++ last) condition
                (suit_both parameters turn last (stmt_suits (turning around) s body inner within known_within (depth + 1) site2 exits2)
                (part_suits (enter around) third after inner within known_within (depth + 1) site3 exits3))
                (condition_suits around inner within parameters e test),
          ),
        )
    stmt_suits _ _ (rule.break loop) scope m known depth site exits = ((λ code same wide. tt), tt)
    stmt_suits _ _ (rule.continue loop) scope m known depth site exits = ((λ code same wide. tt), tt)
    stmt_suits _ _ (rule.return none) scope m known depth site exits =
        suit_both parameters (no_value_code result) (instruction.Jump exits.returned ∷ []) (no_value_suits parameters result) ((λ code same wide. tt), tt)
    stmt_suits _ _ (rule.return_value {c = c} {e = e} {u = u} some value) scope m known depth site exits =
        let level = free_level scope in
        let middle = value_code result scope.base (register_for scope level e) in
        suit_both parameters (expr_code scope level e) (middle ++ (instruction.Jump exits.returned ∷ [])) (expression_suits c scope m parameters level e (Integer u) value)
        (suit_both parameters middle (instruction.Jump exits.returned ∷ [])
        (value_suits parameters result scope.base (register_for scope level e) u (is_as level (kind_of scope e) (Integer u) (type_is c scope m e (Integer u) value))) ((λ code same wide. tt), tt))

    pub part_suits : (c : Context) (part : MaybeStmt) → IsTypedPart c part → (scope : Scope) → Matches c scope → Known c → (depth site : ℕ) (exits : Exits)
        → Suit parameters (part_code calls results inside result scope part depth site exits)
    part_suits _ _ rule.without scope m known depth site exits = tt
    part_suits _ _ (rule.part {c = c} {s = s} typed) scope m known depth site exits = stmt_suits c s typed scope m known depth site exits

    pub stmts_suit : (c : Context) (ss : Stmts) → AreTyped c ss → (scope : Scope) → Matches c scope → Known c → (depth site : ℕ) (exits : Exits)
        → Suit parameters (stmts_code calls results inside result scope ss depth site exits)
    stmts_suit _ _ rule.no_statement scope m known depth site exits = tt
    stmts_suit _ _ (rule.statement {c = c} {ss = ss} {s = s} statements last) scope m known depth site exits =
        let now = after_all c ss in
        let inner = scope_after_all scope ss in
        let site2 = site + all_sites inside ss in
        let final = stmt_code calls results inside result inner s depth site2 exits in
        suit_both parameters (stmts_code calls results inside result scope ss depth site (past (length final) exits)) final
        (stmts_suit c ss statements scope m known depth site (past (length final) exits))
        (stmt_suits now s last inner (matches_all c scope ss statements m) (known_as (λ x. SuitCall parameters) calls results c now (after_all_before c ss) known) depth site2 exits)
