-- With the parameters of the helpers that it calls, a function of a typed program has at most twice as many nodes: each
-- call of a helper has an argument, of a node or more, for each parameter.
use Rattle.std.proofs.Common.{◌≡◌, ℕ, ◌+◌, ◌*◌, ◌≤◌, Bool, true, false, nat_eq, if◌then◌else◌, Option, None, Some, List, [], ◌∷◌, length, refl, ap, sym, subst, ◌∙◌, arith, eqb-true}
use Rattle.std.specs.Map.{lookup}
use Rattle.std.proofs.lemmas.List.{length-map}
use Rattle.limits.specs.declared.Limits.{Limits}
use Rattle.clmodel.specs.Barrier.{fence, both_fences, fences_of, fences}
use Rattle.clmodel.specs.Setup.{kernel_in, functions_before}
use Rattle.clmodel.specs.Tree as tree
use Rattle.clmodel.specs.Tree.{Term, Terms, NoTerm, ThenTerm, Target, MaybeTerm, Stmt, Stmts, NoStmt, ThenStmt, MaybeStmt, Func, Funcs, NoFunc, ThenFunc, Program}
use Rattle.clmodel.specs.Typing.{IsTypedWithin, IsTypedProgram}
use Rattle.clmodel.specs.Typing.Context.{Context, Signature, Meaning, meaning, Current, BuiltInFunction, Barrier, found, called, signature_of, function_meaning, bind, enter, turning, for_context, after_all}
use Rattle.clmodel.specs.Typing.Context as context
use Rattle.clmodel.specs.Typing.Functions.{names, signature, signatures, begin, with_params, size_of, IsTypedFunction, AreTypedFunctions}
use Rattle.clmodel.specs.Typing.Rules as rule
use Rattle.clmodel.specs.Typing.Rules.{Types, TypesAll, TypesTarget, count, AreGiven, CallsHelper, Gives, IsCondition, IsTyped, IsTypedPart, AreTyped}
use Rattle.clmodel.specs.Typing.Sizes.{Size, Sizes, or_nothing, size_in, term_size, terms_size, target_size, condition_size, size, part_size, row_size, sizes_of, node_limit}
use Rattle.clmodel.specs.declared.action.Fences.{Fences}
use Rattle.clmodel.specs.declared.declaration.Declaration.{Declaration}
use Rattle.clmodel.specs.declared.declaration.Declaration.TheVariants.{Single}
use Rattle.clmodel.specs.declared.setup.BuiltIn.{BuiltIn}
use Rattle.clmodel.specs.declared.tree.InfixOperator.TheVariants.{Arithmetic}
use Rattle.clmodel.specs.declared.tree.VariableType.{VariableType}
use Rattle.clnum.specs.declared.operators.BinaryOperator.TheVariants.{BitOr}
use Rattle.lower_code.specs.Helpers.{with_parameters, widths_of}
use Rattle.lower_code.proofs.Looking.{look_left, look_last}
use Rattle.lower.proofs.CallCode.{fresh, none_behind, sizes_none}
use Rattle.lower.proofs.Scoped.{callable_is, after_part_before, after_all_before, with_params_before}
use Rattle.lower.proofs.TypedKernels.{kernel_typed}

-- a name that stands for a built-in function or for the barrier is that of no function before

abbrev plain : Meaning → Bool
plain (BuiltInFunction f) = true
plain Barrier = true
plain _ = false

called_plain : (s : Option Signature) (f : Option BuiltIn) (b : Bool) → plain (called s f b) ≡ true → s ≡ None
called_plain (Some s) f b e = absurd (cc)
called_plain None f b e = refl

choice_plain : (b : Bool) (s : Signature) (m : Meaning) → plain (if b then Current s else m) ≡ true → plain m ≡ true
choice_plain true s m e = absurd (cc)
choice_plain false s m e = e

found_plain : (v : Option Declaration) (m : Meaning) → plain (found v m) ≡ true → plain m ≡ true
found_plain None m e = e
found_plain (Some k) m e = absurd (cc)

no_function : (c : Context) (x : ℕ) → plain (meaning c x) ≡ true → signature_of c.before x ≡ None
no_function c x e =
    called_plain (signature_of c.before x) _ _
    (choice_plain (nat_eq x c.current) c.signature (called (signature_of c.before x) _ _)
    (found_plain (context.variable (c.inner ∷ c.outer) x) (function_meaning c x) e))

-- how many parameters the function has that a name calls
abbrev wanted : Option Signature → ℕ
wanted None = 0
wanted (Some s) = length s.parameters

left_some : (o p : Option Fences) (f : Fences) → both_fences o p ≡ Some f → (l : Fences) × (o ≡ Some l)
left_some (Some l) p f h = (l, refl)
left_some None p f h = absurd (cc)

right_some : (o p : Option Fences) (f : Fences) → both_fences o p ≡ Some f → (r : Fences) × (p ≡ Some r)
right_some (Some l) (Some r) f h = (r, refl)
right_some (Some l) None f h = absurd (cc)
right_some None p f h = absurd (cc)

one_flag : (es : Terms) (f : Fences) → fences es ≡ Some f → (e : Term) × (es ≡ ThenTerm NoTerm e) × (fences_of e ≡ Some f)
one_flag (ThenTerm NoTerm e) f h = (e, refl, h)
one_flag NoTerm f h = absurd (cc)
one_flag (ThenTerm (ThenTerm es d) e) f h = absurd (cc)

module _ (sizes widths : Sizes) where
  -- the functions before are narrow
  abbrev pub Narrow : List (ℕ × Signature) → Type 0
  Narrow before = (x : ℕ) → (size_in widths x).nodes ≤ wanted (signature_of before x) + 2 * (size_in sizes x).nodes

  fence_narrow : (e : Term) (f : Fences) → fence e ≡ Some f → (term_size widths e).nodes + 1 ≤ 2 * (term_size sizes e).nodes
  fence_narrow (tree.Variable a x) f h = omega arith
  fence_narrow e f h = absurd (cc)

  flag_narrow : (e : Term) (f : Fences) → fences_of e ≡ Some f → (term_size widths e).nodes ≤ 2 * (term_size sizes e).nodes
  flag_narrow (tree.Variable a x) f h = omega arith
  flag_narrow (tree.Binary a (Arithmetic BitOr) d e) f h =
      let l = left_some (fence d) (fence e) f h in
      let r = right_some (fence d) (fence e) f h in
      let left = fence_narrow d l.0 l.1 in
      let right = fence_narrow e r.0 r.1 in
      omega (arith, left, right)
  flag_narrow e f h = absurd (cc)

  flags_narrow : (es : Terms) (f : Fences) → fences es ≡ Some f → (terms_size widths es).nodes ≤ 2 * (terms_size sizes es).nodes
  flags_narrow es f h =
      let r = one_flag es f h in
      subst (λ ts. (terms_size widths ts).nodes ≤ 2 * (terms_size sizes ts).nodes) (sym r.1) (let one = flag_narrow r.0 f r.2 in omega (arith, one))

  module _ (c : Context) (known : Narrow c.before) where
    -- a built-in function, or the barrier
    plain_narrow : (x : ℕ) → plain (meaning c x) ≡ true → (size_in widths x).nodes ≤ 2 * (size_in sizes x).nodes
    plain_narrow x is =
        let none = ap wanted (no_function c x is) in
        let narrow = known x in
        omega (arith, none, narrow)

    mutual
      term_narrow : (e : Term) (k : VariableType) → Types c e k → (term_size widths e).nodes + 1 ≤ 2 * (term_size sizes e).nodes
      term_narrow _ _ rule.number = omega arith
      term_narrow _ _ (rule.variable is typed) = omega arith
      term_narrow _ _ (rule.element is typed index) = let h = term_narrow _ _ index in omega (arith, h)
      term_narrow _ _ (rule.address is typed index) = let h = term_narrow _ _ index in omega (arith, h)
      term_narrow _ _ (rule.dereference pointer) = let h = term_narrow _ _ pointer in omega (arith, h)
      term_narrow _ _ (rule.call {x = x} is arguments by) =
          let h = terms_narrow _ _ arguments in let none = plain_narrow x (ap plain is) in omega (arith, h, none)
      term_narrow _ _ (rule.unary operand) = let h = term_narrow _ _ operand in omega (arith, h)
      term_narrow _ _ (rule.cast operand) = let h = term_narrow _ _ operand in omega (arith, h)
      term_narrow _ _ (rule.binary left right operates) = let h = term_narrow _ _ left in let k = term_narrow _ _ right in omega (arith, h, k)
      term_narrow _ _ (rule.choice test chosen otherwise) =
          let h = term_narrow _ _ test in let k = term_narrow _ _ chosen in let l = term_narrow _ _ otherwise in omega (arith, h, k, l)

      terms_narrow : (es : Terms) (ks : List VariableType) → TypesAll c es ks → (terms_size widths es).nodes + count es ≤ 2 * (terms_size sizes es).nodes
      terms_narrow _ _ rule.no_argument = omega arith
      terms_narrow _ _ (rule.argument arguments last) = let h = terms_narrow _ _ arguments in let k = term_narrow _ _ last in omega (arith, h, k)

    given_narrow : (ps : List VariableType) (es : Terms) → AreGiven c ps es → (terms_size widths es).nodes + count es ≤ 2 * (terms_size sizes es).nodes
    given_narrow _ _ rule.no_argument = omega arith
    given_narrow _ _ (rule.argument given last at passes) = let h = given_narrow _ _ given in let k = term_narrow _ _ last in omega (arith, h, k)

    target_narrow : (p : Target) (k : VariableType) → TypesTarget c p k → (target_size widths p).nodes ≤ 2 * (target_size sizes p).nodes
    target_narrow _ _ (rule.variable_target is) = omega arith
    target_narrow _ _ (rule.element_target is typed stored index) = let h = term_narrow _ _ index in omega (arith, h)
    target_narrow _ _ (rule.dereference_target writable pointer) = let h = term_narrow _ _ pointer in omega (arith, h)

    called_narrow : (x : ℕ) (es : Terms) (s : Signature) → CallsHelper c x es s
        → (terms_size widths es).nodes + (size_in widths x).nodes ≤ 2 * (terms_size sizes es).nodes + 2 * (size_in sizes x).nodes
    called_narrow x es s call =
        let given = given_narrow _ _ call.arguments in
        let narrow = known x in
        let its = ap wanted (callable_is c x s call.meaning) in
        let same = call.count in
        omega (arith, given, narrow, its, same)

    gives_narrow : (e : Term) (k : VariableType) → Gives c e k → (term_size widths e).nodes ≤ 2 * (term_size sizes e).nodes
    gives_narrow _ _ (rule.expression types) = let h = term_narrow _ _ types in omega (arith, h)
    gives_narrow _ _ (rule.helper {x = x} {es = es} {s = s} call gives) = let h = called_narrow x es s call in omega (arith, h)

    condition_narrow : (e : MaybeTerm) → IsCondition c e → (condition_size widths e).nodes ≤ 2 * (condition_size sizes e).nodes
    condition_narrow _ rule.always = omega arith
    condition_narrow _ (rule.condition types) = let h = term_narrow _ _ types in omega (arith, h)

  mutual
    stmt_narrow : (c : Context) (s : Stmt) → IsTyped c s → Narrow c.before → (size widths s).nodes ≤ 2 * (size sizes s).nodes
    stmt_narrow _ _ rule.empty known = omega arith
    stmt_narrow _ _ (rule.block {c = c} body) known = let h = row_narrow (enter c) _ body known in omega (arith, h)
    stmt_narrow _ _ (rule.declare free) known = omega arith
    stmt_narrow _ _ (rule.declare_as {c = c} {x = x} {k = k} free gives passes) known =
        let h = gives_narrow (bind c x (Single k)) known _ _ gives in omega (arith, h)
    stmt_narrow _ _ (rule.declare_array free outermost some few) known = omega arith
    stmt_narrow _ _ (rule.assign {c = c} place gives passes) known =
        let h = target_narrow c known _ _ place in let k = gives_narrow c known _ _ gives in omega (arith, h, k)
    stmt_narrow _ _ (rule.assign_by {c = c} place gives operates passes) known =
        let h = target_narrow c known _ _ place in let k = gives_narrow c known _ _ gives in omega (arith, h, k)
    stmt_narrow _ _ (rule.step {c = c} place) known = let h = target_narrow c known _ _ place in omega (arith, h)
    stmt_narrow _ _ (rule.call_only {c = c} {x = x} is arguments by) known =
        let h = terms_narrow c known _ _ arguments in let none = plain_narrow c known x (ap plain is) in omega (arith, h, none)
    stmt_narrow _ _ (rule.barrier {c = c} {x = x} {es = es} {f = f} is named) known =
        let h = flags_narrow es f named in let none = plain_narrow c known x (ap plain is) in omega (arith, h, none)
    stmt_narrow _ _ (rule.call_helper {c = c} {x = x} {es = es} {s = s} call) known = let h = called_narrow c known x es s call in omega (arith, h)
    stmt_narrow _ _ (rule.if {c = c} test chosen) known =
        let h = term_narrow c known _ _ test in let k = stmt_narrow (enter c) _ chosen known in omega (arith, h, k)
    stmt_narrow _ _ (rule.if_else {c = c} test chosen otherwise) known =
        let h = term_narrow c known _ _ test in
        let k = stmt_narrow (enter c) _ chosen known in
        let l = stmt_narrow (enter c) _ otherwise known in
        omega (arith, h, k, l)
    stmt_narrow _ _ (rule.while {c = c} test body) known =
        let h = term_narrow c known _ _ test in let k = stmt_narrow (turning c) _ body known in omega (arith, h, k)
    stmt_narrow _ _ (rule.do_while {c = c} body test) known =
        let h = term_narrow c known _ _ test in let k = stmt_narrow (turning c) _ body known in omega (arith, h, k)
    stmt_narrow _ _ (rule.for {c = c} {first = first} begun test after body) known =
        let around = for_context c first in
        let inner : Narrow around.before = subst Narrow (sym (after_part_before (enter c) first)) known in
        let h = part_narrow (enter c) _ begun known in
        let k = condition_narrow around inner _ test in
        let l = part_narrow (enter around) _ after inner in
        let m = stmt_narrow (turning around) _ body inner in
        omega (arith, h, k, l, m)
    stmt_narrow _ _ (rule.break loop) known = omega arith
    stmt_narrow _ _ (rule.continue loop) known = omega arith
    stmt_narrow _ _ (rule.return none) known = omega arith
    stmt_narrow _ _ (rule.return_value {c = c} some value) known = let h = term_narrow c known _ _ value in omega (arith, h)

    part_narrow : (c : Context) (part : MaybeStmt) → IsTypedPart c part → Narrow c.before → (part_size widths part).nodes ≤ 2 * (part_size sizes part).nodes
    part_narrow _ _ rule.without known = omega arith
    part_narrow _ _ (rule.part {c = c} typed) known = stmt_narrow c _ typed known

    pub row_narrow : (c : Context) (ss : Stmts) → AreTyped c ss → Narrow c.before → (row_size widths ss).nodes ≤ 2 * (row_size sizes ss).nodes
    row_narrow _ _ rule.no_statement known = omega arith
    row_narrow _ _ (rule.statement {c = c} {ss = ss} statements last) known =
        let h = row_narrow c ss statements known in
        let k = stmt_narrow (after_all c ss) _ last (subst Narrow (sym (after_all_before c ss)) known) in
        omega (arith, h, k)

-- sizes with parameters have the names that sizes have
pub widths_none : (fs : Funcs) (test : ℕ → Bool) → lookup test (sizes_of fs) ≡ None → lookup test (widths_of fs) ≡ None
widths_none NoFunc test e = refl
widths_none (ThenFunc fs f) test e =
    let apart = none_behind test (sizes_of fs) f.name (size_of fs f) e in
    look_left test (widths_of fs) f.name (with_parameters f (row_size (widths_of fs) f.body)) apart.0 ∙ widths_none fs test apart.1

module _ (limits : Limits) (all : List ℕ) where
  body_narrow : (earlier : Funcs) (f : Func) → IsTypedFunction limits all earlier f → Narrow (sizes_of earlier) (widths_of earlier) (signatures earlier)
      → (row_size (widths_of earlier) f.body).nodes ≤ 2 * (row_size (sizes_of earlier) f.body).nodes
  body_narrow earlier f typed known =
      let start = begin limits all earlier f in
      row_narrow (sizes_of earlier) (widths_of earlier) (with_params start f.parameters) f.body typed.body
      (subst (Narrow (sizes_of earlier) (widths_of earlier)) (sym (with_params_before start f.parameters)) known)

  functions_narrow : (fs : Funcs) → AreTypedFunctions limits all fs → Narrow (sizes_of fs) (widths_of fs) (signatures fs)
  functions_narrow NoFunc typed x = omega arith
  functions_narrow (ThenFunc earlier f) typed x = by_case (functions_narrow earlier typed.0) (nat_eq x f.name) refl
    where
      new : signature_of (signatures earlier) f.name ≡ None
      new = (fresh earlier f.name typed.1.name).2

      by_case : Narrow (sizes_of earlier) (widths_of earlier) (signatures earlier) → (b : Bool) → nat_eq x f.name ≡ b
          → (size_in (widths_of (ThenFunc earlier f)) x).nodes ≤ wanted (signature_of (signatures (ThenFunc earlier f)) x) + 2 * (size_in (sizes_of (ThenFunc earlier f)) x).nodes
      by_case before true e =
          let same : x ≡ f.name = eqb-true x f.name e in
          let none : signature_of (signatures earlier) x ≡ None = ap (signature_of (signatures earlier)) same ∙ new in
          let no_size = sizes_none earlier (nat_eq x) none in
          let wide = ap (λ (o : Option Size). (or_nothing o).nodes) (look_last (nat_eq x) (widths_of earlier) f.name (with_parameters f (row_size (widths_of earlier) f.body)) e (widths_none earlier (nat_eq x) no_size)) in
          let plain_size = ap (λ (o : Option Size). (or_nothing o).nodes) (look_last (nat_eq x) (sizes_of earlier) f.name (size_of earlier f) e no_size) in
          let its = ap wanted (look_last (nat_eq x) (signatures earlier) f.name (signature f) e none) in
          let many : length (signature f).parameters ≡ length f.parameters = length-map f.parameters (λ p. p.kind) in
          let body = body_narrow earlier f typed.1 before in
          omega (arith, wide, plain_size, its, many, body)
      by_case before false e =
          let wide = ap (λ (o : Option Size). (or_nothing o).nodes) (look_left (nat_eq x) (widths_of earlier) f.name (with_parameters f (row_size (widths_of earlier) f.body)) e) in
          let plain_size = ap (λ (o : Option Size). (or_nothing o).nodes) (look_left (nat_eq x) (sizes_of earlier) f.name (size_of earlier f) e) in
          let its = ap wanted (look_left (nat_eq x) (signatures earlier) f.name (signature f) e) in
          let known = before x in
          omega (arith, wide, plain_size, its, known)

  -- a function of a typed program
  pub function_narrow : (earlier : Funcs) (f : Func) → AreTypedFunctions limits all earlier → IsTypedFunction limits all earlier f
      → (row_size (widths_of earlier) f.body).nodes ≤ 2 * (row_size (sizes_of earlier) f.body).nodes
  function_narrow earlier f typed its = body_narrow earlier f its (functions_narrow earlier typed)

-- a kernel
pub kernel_narrow : (program : Program) (name : ℕ) (f : Func) → IsTypedProgram program → kernel_in program.functions name ≡ Some f
    → (row_size (widths_of (functions_before program.functions name)) f.body).nodes ≤ 2 * node_limit
unfolding IsTypedProgram IsTypedWithin
kernel_narrow program name f typed is =
    let limits = typed.0 in
    let r = kernel_typed limits (names program.functions) program.functions name f typed.1 is in
    let narrow = function_narrow limits (names program.functions) (functions_before program.functions name) f r.0.0 r.0.1 in
    let nodes = r.0.1.nodes r.1 in
    let greatest = limits.few_nodes in
    omega (arith, narrow, nodes, greatest)
