-- The scope of code has the variables of the context behind each declaration, and a context's names of helpers are
-- those of the functions before.
use Rattle.std.proofs.Common.{◌≡◌, ℕ, zero, suc, ◌≤◌, replicate, Bool, true, false, not, ◌&&◌, nat_eq, if◌then◌else◌, Option, None, Some, is_some, List, [], ◌∷◌, refl, ap, sym, subst, ◌∙◌, eqb-true, arith}
use Rattle.std.specs.Map.{lookup}
use Rattle.std.specs.Option.{option_or}
use Rattle.clmodel.specs.Tree as tree
use Rattle.clmodel.specs.Next.{elements_of, has_elements}
use Rattle.clmodel.specs.Tree.{array_length, Stmt, Stmts, NoStmt, ThenStmt, MaybeStmt, Without, With}
use Rattle.clmodel.specs.Typing.Context.{Context, Signature, array, Meaning, meaning, Bound, Callable, Current, BuiltInFunction, Barrier, Unknown, declared, found, called, signature_of, function_meaning, is_reserved, is_free, among, bind, after, after_all, after_part}
use Rattle.clmodel.specs.Typing.Context as context
use Rattle.clmodel.specs.Typing.Rules as rule
use Rattle.clmodel.specs.Typing.Rules.{IsTyped, IsTypedPart, AreTyped}
use Rattle.clmodel.specs.Typing.Functions.{with_params, AreParams}
use Rattle.clnum.specs.declared.int_type.IntType.{IntType}
use Rattle.clmodel.specs.declared.declaration.Declaration.{Declaration}
use Rattle.clmodel.specs.declared.declaration.Declaration.TheVariants.{Single, LocalArray, PrivateArray}
use Rattle.clmodel.specs.declared.setup.BuiltIn.{BuiltIn}
use Rattle.clmodel.specs.declared.tree.Parameter.{Parameter}
use Rattle.clmodel.specs.declared.tree.VariableType.{VariableType}
use Rattle.lower_expr.specs.Scope.{Scope, register_at, register_of, free_level}
use Rattle.lower_expr.specs.Expressions.{kind_named}
use Rattle.lower_code.specs.Code.{with_variable, array_variable, parameter_variables, scope_after, scope_after_part, scope_after_all}
use Rattle.lower.specs.Accepted.{declared_kind, is_private, Matches}
use Rattle.lower_code.proofs.Looking.{look_left, look_last}

-- a name that stands for a helper
called_callable : (s : Option Signature) (f : Option BuiltIn) (b : Bool) (t : Signature) → called s f b ≡ Callable t → s ≡ Some t
called_callable (Some s) f b t e = ap (λ m. elim m as (λ _. Option Signature) [ Bound k ↦ None | Callable s ↦ Some s | Current s ↦ None | BuiltInFunction h ↦ None | Barrier ↦ None | Unknown ↦ None ]) e
called_callable None (Some f) b t e = absurd (cc)
called_callable None None true t e = absurd (cc)
called_callable None None false t e = absurd (cc)

choice_callable : (b : Bool) (s : Signature) (m : Meaning) (t : Signature) → (if b then Current s else m) ≡ Callable t → m ≡ Callable t
choice_callable true s m t e = absurd (cc)
choice_callable false s m t e = e

found_callable : (v : Option Declaration) (m : Meaning) (t : Signature) → found v m ≡ Callable t → m ≡ Callable t
found_callable None m t e = e
found_callable (Some k) m t e = absurd (cc)

pub callable_is : (c : Context) (name : ℕ) (s : Signature) → meaning c name ≡ Callable s → signature_of c.before name ≡ Some s
callable_is c name s e =
    called_callable (signature_of c.before name) _ _ s
    (choice_callable (nat_eq name c.current) c.signature (called (signature_of c.before name) _ _) s
    (found_callable (context.variable (c.inner ∷ c.outer) name) (function_meaning c name) s e))

-- a function is no variable
called_unbound : (s : Option Signature) (f : Option BuiltIn) (b : Bool) (k : Declaration) → called s f b ≡ Bound k → ⊥
called_unbound (Some s) f b k e = absurd (cc)
called_unbound None (Some f) b k e = absurd (cc)
called_unbound None None true k e = absurd (cc)
called_unbound None None false k e = absurd (cc)

pub function_unbound : (b : Bool) (t : Signature) (s : Option Signature) (f : Option BuiltIn) (waits : Bool) (k : Declaration) → (if b then Current t else called s f waits) ≡ Bound k → ⊥
function_unbound true t s f waits k e = absurd (cc)
function_unbound false t s f waits k e = called_unbound s f waits k e

free_new : (a : Bool) (o : Option Declaration) (b : Bool) → (not a && not (is_some o) && not b) ≡ true → o ≡ None
free_new true o b e = absurd (cc)
free_new false None b e = refl
free_new false (Some k) b e = absurd (cc)

pub new_name : (c : Context) (x : ℕ) → is_free c x ≡ true → declared c.inner x ≡ None
new_name c x e = free_new (is_reserved x) (declared c.inner x) (among x c.all) e

bound_is : (j k : Declaration) → Bound j ≡ Bound k → j ≡ k
bound_is j k e = ap (λ m. elim m as (λ _. Declaration) [ Bound l ↦ l | Callable s ↦ j | Current s ↦ j | BuiltInFunction h ↦ j | Barrier ↦ j | Unknown ↦ j ]) e

-- a variable that holds nothing, as it is declared
abbrev Declares : Scope → ℕ → Declaration → List (Option ℕ) → Scope
Declares scope x d elements = record scope { variables = record { name = x; kind = declared_kind d; content = None; elements = elements } ∷ scope.variables }

bound_case : (c : Context) (scope : Scope) (x : ℕ) (d : Declaration) (elements : List (Option ℕ)) (y : ℕ) (j : Declaration) (b : Bool) → has_elements elements ≡ is_private d
    → nat_eq y x ≡ b → declared c.inner x ≡ None → Matches c scope → meaning (bind c x d) y ≡ Bound j
    → (level : ℕ)
    × ((elim b as (λ _. Option ℕ) [ true ↦ Some (register_at (free_level scope) (declared_kind d)) | false ↦ register_of scope y ] ≡ Some (register_at level (declared_kind j)))
    × ((elim b as (λ _. VariableType) [ true ↦ declared_kind d | false ↦ kind_named scope y ] ≡ declared_kind j)
    × (has_elements (elim b as (λ _. List (Option ℕ)) [ true ↦ elements | false ↦ elements_of scope.variables y ]) ≡ is_private j)))
bound_case c scope x d elements y j true some e new m is =
    let same : y ≡ x = eqb-true y x e in
    let none : lookup (nat_eq y) c.inner ≡ None = subst (λ z. lookup (nat_eq z) c.inner ≡ None) (sym same) new in
    let there = look_last (nat_eq y) c.inner x d e none in
    let kind = bound_is d j (sym (ap (λ o. found (option_or o (context.variable c.outer y)) (function_meaning c y)) there) ∙ is) in
    (free_level scope, (ap (λ l. Some (register_at (free_level scope) (declared_kind l))) kind, (ap declared_kind kind, some ∙ ap is_private kind)))
bound_case c scope x d elements y j false some e new m is =
    let there = look_left (nat_eq y) c.inner x d e in
    let before = m y j (sym (ap (λ o. found (option_or o (context.variable c.outer y)) (function_meaning c y)) there) ∙ is) in
    (before.level, (before.register, (before.declared, before.array)))

matches_declared : (c : Context) (scope : Scope) (x : ℕ) (d : Declaration) (elements : List (Option ℕ)) → has_elements elements ≡ is_private d → is_free c x ≡ true → Matches c scope
    → Matches (bind c x d) (Declares scope x d elements)
matches_declared c scope x d elements some free m y j is =
    let r = bound_case c scope x d elements y j (nat_eq y x) some refl (new_name c x free) m is in
    record { level = r.0; register = r.1.0; declared = r.1.1.0; array = r.1.1.1 }

pub matches_bind : (c : Context) (scope : Scope) (x : ℕ) (k : VariableType) → is_free c x ≡ true → Matches c scope → Matches (bind c x (Single k)) (with_variable scope x k)
matches_bind c scope x k free m = matches_declared c scope x (Single k) [] refl free m

-- an array that is declared
some_elements : (n : ℕ) → 1 ≤ n → has_elements (replicate n None) ≡ true
some_elements zero h = absurd (omega (arith, h))
some_elements (suc n) h = refl

matches_array : (c : Context) (scope : Scope) (x : ℕ) (is_local : Bool) (t : IntType) (n : ℕ) → 1 ≤ n → is_free c x ≡ true → Matches c scope
    → Matches (bind c x (array is_local t)) (record scope { variables = array_variable is_local t n x ∷ scope.variables })
matches_array c scope x true t n some free m = matches_declared c scope x (LocalArray t) [] refl free m
matches_array c scope x false t n some free m = matches_declared c scope x (PrivateArray t) (replicate n None) (some_elements n some) free m

pub matches_params : (c : Context) (scope : Scope) (ps : List Parameter) → AreParams c ps → Matches c scope
    → Matches (with_params c ps) (record scope { variables = parameter_variables ps scope.variables })
matches_params c scope [] free m = m
matches_params c scope (p ∷ ps) free m = matches_params (bind c p.name (Single p.kind)) (with_variable scope p.name p.kind) ps free.1 (matches_bind c scope p.name p.kind free.0 m)

pub matches_after : (c : Context) (scope : Scope) (s : Stmt) → IsTyped c s → Matches c scope → Matches (after c s) (scope_after scope s)
matches_after _ scope _ (rule.declare {c = c} {x = x} {k = k} free) m = matches_bind c scope x k free m
matches_after _ scope _ (rule.declare_as {c = c} {x = x} {k = k} free gives passes) m = matches_bind c scope x k free m
matches_after _ scope _ (rule.declare_array {c = c} {x = x} {is_local = is_local} {t = t} {n = n} free outermost some few) m = matches_array c scope x is_local t (array_length n) some free m
matches_after _ scope _ rule.empty m = m
matches_after _ scope _ (rule.block body) m = m
matches_after _ scope _ (rule.assign place gives passes) m = m
matches_after _ scope _ (rule.assign_by place gives operates passes) m = m
matches_after _ scope _ (rule.step place) m = m
matches_after _ scope _ (rule.call_only is arguments calls) m = m
matches_after _ scope _ (rule.barrier is named) m = m
matches_after _ scope _ (rule.call_helper call) m = m
matches_after _ scope _ (rule.if test chosen) m = m
matches_after _ scope _ (rule.if_else test chosen otherwise) m = m
matches_after _ scope _ (rule.while test body) m = m
matches_after _ scope _ (rule.do_while body test) m = m
matches_after _ scope _ (rule.for first test third body) m = m
matches_after _ scope _ (rule.break loop) m = m
matches_after _ scope _ (rule.continue loop) m = m
matches_after _ scope _ (rule.return none) m = m
matches_after _ scope _ (rule.return_value some value) m = m

pub matches_part : (c : Context) (scope : Scope) (part : MaybeStmt) → IsTypedPart c part → Matches c scope → Matches (after_part c part) (scope_after_part scope part)
matches_part _ scope _ rule.without m = m
matches_part _ scope _ (rule.part {c = c} {s = s} typed) m = matches_after c scope s typed m

pub matches_all : (c : Context) (scope : Scope) (ss : Stmts) → AreTyped c ss → Matches c scope → Matches (after_all c ss) (scope_after_all scope ss)
matches_all _ scope _ rule.no_statement m = m
matches_all _ scope _ (rule.statement {c = c} {ss = ss} {s = s} statements last) m =
    matches_after (after_all c ss) (scope_after_all scope ss) s last (matches_all c scope ss statements m)

-- the functions before a statement are those before what follows it
after_before : (c : Context) (s : Stmt) → (after c s).before ≡ c.before
after_before c (tree.Declare a k b x) = refl
after_before c (tree.DeclareAs a k b x e) = refl
after_before c (tree.DeclareArray a is_local t b x d n) = refl
after_before c _ = refl

pub after_part_before : (c : Context) (part : MaybeStmt) → (after_part c part).before ≡ c.before
after_part_before c Without = refl
after_part_before c (With s) = after_before c s

pub after_all_before : (c : Context) (ss : Stmts) → (after_all c ss).before ≡ c.before
after_all_before c NoStmt = refl
after_all_before c (ThenStmt ss s) = after_before (after_all c ss) s ∙ after_all_before c ss

pub with_params_before : (c : Context) (ps : List Parameter) → (with_params c ps).before ≡ c.before
with_params_before c [] = refl
with_params_before c (p ∷ ps) = with_params_before (bind c p.name (Single p.kind)) ps
