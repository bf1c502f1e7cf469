-- Calls of helper functions, and what is assigned, are typed exactly where they have no fault.
use Rattle.std.proofs.Common.{◌≡◌, ℕ, ◌<◌, ◌≤◌, true, List, [], ◌∷◌, ◌++◌, length, map, option_map, Option, None, Some, is_some, true≢false, refl, sym, ap, ◌∙◌, subst, arith}
use Prim.Native.Nat.{zero, suc}
use Rattle.std.specs.List.{slice_get}
use Rattle.std.proofs.lemmas.Option.{slice_get-map}
use Rattle.clnum.specs.declared.int_type.IntType.{IntType}
use Rattle.clmodel.specs.declared.tree.VariableType.{VariableType}
use Rattle.clmodel.specs.declared.type_fault.TypeFault.TheVariants as fault
use Rattle.clmodel.specs.Tree as tree
use Rattle.clmodel.specs.Tree.{Term, Terms, NoTerm, ThenTerm}
use Rattle.clmodel.specs.Typing.Context.{Context, Signature, meaning, Callable}
use Rattle.clmodel.specs.Typing.Least.{least, first, node}
use Rattle.clmodel.specs.Typing.Rules as rule
use Rattle.clmodel.specs.Typing.Rules.{count, Types, AreGiven, CallsHelper, Gives}
use Rattle.clmodel.specs.Typing.Faults.{start, Spot, RightSide, takes_helper, ForParameter, argument_faults, passing_faults, callee_faults, wanted, call_kind, result_kind, kind_of, last_kind, first_kind, arguments_faults, inside_call, call_faults, term_faults, terms_faults, value_faults, gives_value, void_faults}
use Rattle.cltypes.proofs.Splits.{none_split, none_joined, places_split, node_split, node_joined, unless_none, unless_true}
use Rattle.cltypes.proofs.Tables.{passing_sound, passing_complete}
use Rattle.cltypes.proofs.CallTables.{IsHelper, a_built_in, a_barrier, a_helper, own_sound, helper_complete, calls_complete}
use Rattle.cltypes.proofs.Exact.{term_sound, terms_sound, term_complete, terms_complete, built_in_sound, call_complete}
use Rattle.cltypes_scope.proofs.Follows.{neither_of}

-- arguments for parameters

there : (ps : List VariableType) (i : ℕ) → i < length ps → (p : VariableType) × (slice_get ps i ≡ Some p)
there [] i h = absurd (omega (arith, h))
there (p ∷ ps) zero h = (p, refl)
there (p ∷ ps) (suc i) h = there ps i (omega (arith, h))

wanted_there : (ps : List VariableType) (i : ℕ) (p : VariableType) → slice_get ps i ≡ Some p → slice_get (map ForParameter ps) i ≡ Some (ForParameter p)
wanted_there ps i p h = slice_get-map ForParameter ps i ∙ ap (option_map ForParameter) h

given_sound : (c : Context) (ps : List VariableType) (es : Terms) → first (terms_faults c es) ≡ None → count es ≤ length ps
    → least (arguments_faults c (map ForParameter ps) es) ≡ None → AreGiven c ps es
given_sound c ps NoTerm n h o = rule.no_argument
given_sound c ps (ThenTerm es e) n h o =
    let ws = map ForParameter ps in
    let r = places_split (terms_faults c es) (term_faults c e) n in
    let s = none_split (arguments_faults c ws es) (argument_faults (slice_get ws (count es)) (last_kind c es) (kind_of c e) (start e)) o in
    let p = there ps (count es) (omega (arith, h)) in
    rule.argument (given_sound c ps es r.0 (omega (arith, h)) s.0) (term_sound c e r.1) p.1
    (passing_sound p.0 (kind_of c e) (start e)
    (subst (λ w. least (argument_faults w (last_kind c es) (kind_of c e) (start e)) ≡ None) (wanted_there ps (count es) p.0 p.1) s.1))

given_complete : (c : Context) (ps : List VariableType) (es : Terms) → AreGiven c ps es → (first (terms_faults c es) ≡ None) × (least (arguments_faults c (map ForParameter ps) es) ≡ None)
given_complete c ps _ rule.no_argument = (refl, refl)
given_complete c ps _ (rule.argument {es = es} {e = e} {p = p} {k = k} all one g s) =
    let ws = map ForParameter ps in
    let r = given_complete c ps es all in
    let q = term_complete c e k one in (
      neither_of (terms_faults c es) (term_faults c e) r.0 q.faultless,
      none_joined (arguments_faults c ws es) (argument_faults (slice_get ws (count es)) (last_kind c es) (kind_of c e) (start e)) r.1
          (subst (λ w. least (argument_faults w (last_kind c es) (kind_of c e) (start e)) ≡ None) (sym (wanted_there ps (count es) p g))
          (subst (λ v. least (passing_faults p v (start e)) ≡ None) (sym q.same) (passing_complete p k (start e) s))),
    )

-- a call of a helper

pub helper_sound : (c : Context) (spot : Spot) (x : ℕ) (es : Terms) (h : IsHelper spot (meaning c x) (count es)) → first (terms_faults c es) ≡ None
    → least (arguments_faults c (wanted (meaning c x)) es) ≡ None → CallsHelper c x es h.signature
helper_sound c spot x es h n o = record {
  meaning = h.is;
  is_helper = h.is_helper;
  count = h.counted;
  arguments = given_sound c h.signature.parameters es n (omega (arith, h.counted)) (subst (λ v. least (arguments_faults c (wanted v) es) ≡ None) h.is o);
}

pub helper_faultless : (c : Context) (spot : Spot) (a x : ℕ) (es : Terms) (s : Signature) → takes_helper spot ≡ true → CallsHelper c x es s
    → first (node (terms_faults (inside_call (meaning c x) c) es) (call_faults c spot (meaning c x) a es)) ≡ None
helper_faultless c spot a x es s p h =
    let r = given_complete c s.parameters es h.arguments in
    let callee = callee_faults spot (Callable s) a (count es) in
    let arguments = arguments_faults c (map ForParameter s.parameters) es in
    subst (λ v. first (node (terms_faults (inside_call v c) es) (call_faults c spot v a es)) ≡ None) (sym h.meaning)
    (node_joined (terms_faults c es) (call_faults c spot (Callable s) a es) r.0
    (none_joined (callee ++ arguments) [] (none_joined callee arguments (helper_complete spot s a (count es) p h.is_helper h.count) r.1) refl))

-- what is assigned, or initialises a variable

pub some_type : (o : Option IntType) → is_some o ≡ true → (t : IntType) × (o ≡ Some t)
some_type (Some t) h = (t, refl)
some_type None h = absurd (cc)

gives_helper : (c : Context) (a x : ℕ) (es : Terms) (s : Signature) → CallsHelper c x es s → is_some s.result ≡ true → Gives c (tree.Call a x es) (call_kind (Callable s) (first_kind c es))
gives_helper c a x es s h r =
    let t = some_type s.result r in
    subst (λ o. Gives c (tree.Call a x es) (result_kind o)) (sym t.1) (rule.helper h t.1)

called_value : (c : Context) (a x : ℕ) (es : Terms) → first (value_faults c (tree.Call a x es)) ≡ None → least (void_faults c (tree.Call a x es)) ≡ None
    → Gives c (tree.Call a x es) (call_kind (meaning c x) (first_kind c es))
called_value c a x es n v =
    let m = meaning c x in
    let r = node_split (terms_faults (inside_call m c) es) (call_faults c RightSide m a es) n in
    let s = own_sound c RightSide m a es r.1 in
    elim s.callee [
      | a_built_in f ↦ let same : inside_call m c ≡ c = ap (λ z. inside_call z c) f.is in
          rule.expression (built_in_sound c a x es f (terms_sound c es (subst (λ d. first (terms_faults d es) ≡ None) same r.0))
          (subst (λ d. least (arguments_faults d (wanted m) es) ≡ None) same s.arguments))
      | a_barrier b ↦ absurd (true≢false (sym b.placed))
      | a_helper h ↦ let same : inside_call m c ≡ c = ap (λ z. inside_call z c) h.is in
          subst (λ z. Gives c (tree.Call a x es) (call_kind z (first_kind c es))) (sym h.is)
          (gives_helper c a x es h.signature
          (helper_sound c RightSide x es h (subst (λ d. first (terms_faults d es) ≡ None) same r.0) (subst (λ d. least (arguments_faults d (wanted m) es) ≡ None) same s.arguments))
          (ap gives_value (sym h.is) ∙ unless_none (gives_value m) (fault.TypeMismatch a) v))
    ]

pub value_sound : (c : Context) (e : Term) → first (value_faults c e) ≡ None → least (void_faults c e) ≡ None → Gives c e (kind_of c e)
value_sound c (tree.Call a x es) n v = called_value c a x es n v
value_sound c (tree.Number a v) n w = rule.expression (term_sound c (tree.Number a v) n)
value_sound c (tree.Variable a x) n w = rule.expression (term_sound c (tree.Variable a x) n)
value_sound c (tree.Element a x e) n w = rule.expression (term_sound c (tree.Element a x e) n)
value_sound c (tree.ElementAddress a b x e) n w = rule.expression (term_sound c (tree.ElementAddress a b x e) n)
value_sound c (tree.Dereference a e) n w = rule.expression (term_sound c (tree.Dereference a e) n)
value_sound c (tree.Unary a op e) n w = rule.expression (term_sound c (tree.Unary a op e) n)
value_sound c (tree.Cast a t e) n w = rule.expression (term_sound c (tree.Cast a t e) n)
value_sound c (tree.Binary a op d e) n w = rule.expression (term_sound c (tree.Binary a op d e) n)
value_sound c (tree.Choice a e d f) n w = rule.expression (term_sound c (tree.Choice a e d f) n)

-- a value without a fault, of this type
pub record IsValueOf (c : Context) (e : Term) (k : VariableType) : Type 0 where
  pub faultless : first (value_faults c e) ≡ None
  pub given : least (void_faults c e) ≡ None
  pub same : kind_of c e ≡ k

plain : (c : Context) (e : Term) (k : VariableType) → value_faults c e ≡ term_faults c e → void_faults c e ≡ [] → Types c e k → IsValueOf c e k
plain c e k p q t =
    let r = term_complete c e k t in
    record { faultless = ap first p ∙ r.faultless; given = ap least q; same = r.same }

expression_value : (c : Context) (e : Term) (k : VariableType) → Types c e k → IsValueOf c e k
expression_value c _ _ (rule.call {a = a} {x = x} {f = f} {es = es} {ks = ks} {k = k} m h g) =
    let r = terms_complete c es ks h in
    let s = calls_complete c f es ks k g r.same in
    record {
      faultless = call_complete c RightSide a x f es ks k m r s;
      given = unless_true (gives_value (meaning c x)) (fault.TypeMismatch a) (ap gives_value m);
      same = ap (λ v. call_kind v (first_kind c es)) m ∙ s.gives;
    }
expression_value c (tree.Number a v) k t = plain c (tree.Number a v) k refl refl t
expression_value c (tree.Variable a x) k t = plain c (tree.Variable a x) k refl refl t
expression_value c (tree.Element a x e) k t = plain c (tree.Element a x e) k refl refl t
expression_value c (tree.ElementAddress a b x e) k t = plain c (tree.ElementAddress a b x e) k refl refl t
expression_value c (tree.Dereference a e) k t = plain c (tree.Dereference a e) k refl refl t
expression_value c (tree.Unary a op e) k t = plain c (tree.Unary a op e) k refl refl t
expression_value c (tree.Cast a s e) k t = plain c (tree.Cast a s e) k refl refl t
expression_value c (tree.Binary a op d e) k t = plain c (tree.Binary a op d e) k refl refl t
expression_value c (tree.Choice a e d f) k t = plain c (tree.Choice a e d f) k refl refl t

pub value_complete : (c : Context) (e : Term) (k : VariableType) → Gives c e k → IsValueOf c e k
value_complete c e k (rule.expression t) = expression_value c e k t
value_complete c _ _ (rule.helper {a = a} {x = x} {es = es} {s = s} {t = t} h r) = record {
  faultless = helper_faultless c RightSide a x es s refl h;
  given = unless_true (gives_value (meaning c x)) (fault.TypeMismatch a) (ap gives_value h.meaning ∙ ap is_some r);
  same = ap (λ v. call_kind v (first_kind c es)) h.meaning ∙ ap result_kind r;
}
