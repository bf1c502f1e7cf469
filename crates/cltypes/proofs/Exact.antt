-- An expression is typed exactly where none of its places has a fault.
use Rattle.std.proofs.Common.{◌≡◌, ℕ, List, [], ◌∷◌, ◌++◌, None, true≢false, refl, sym, ap, ◌∙◌, subst}
use Rattle.clnum.specs.declared.int_type.IntType.{IntType}
use Rattle.clnum.specs.declared.operators.UnaryOperator.{UnaryOperator}
use Rattle.clmodel.specs.declared.setup.BuiltIn.{BuiltIn}
use Rattle.clmodel.specs.declared.tree.VariableType.{VariableType}
use Rattle.clmodel.specs.declared.tree.VariableType.TheVariants.{Integer as Number, Pointer}
use Rattle.clmodel.specs.declared.type_fault.TypeFault.{TypeFault}
use Rattle.clmodel.specs.declared.type_fault.TypeFault.TheVariants as fault
use Rattle.clmodel.specs.Tree as tree
use Rattle.clmodel.specs.Tree.{Term, Terms, NoTerm, ThenTerm}
use Rattle.clmodel.specs.Typing.Context.{Context, meaning, Bound, BuiltInFunction}
use Rattle.clmodel.specs.Typing.Least.{least, first, node}
use Rattle.clmodel.specs.Typing.Rules as rule
use Rattle.clmodel.specs.Typing.Rules.{Types, TypesAll, count}
use Rattle.clmodel.specs.Typing.Faults.{start, integer_faults, pointer_faults, name_faults, front_faults, address_faults, operand_faults, Spot, Inside, wanted, type_or_int, name_kind, number_or_int, front_kind, element_kind, unary_type, binary_type, choice_type, call_kind, kind_of, first_kind, arguments_faults, inside_call, call_faults, term_faults, terms_faults}
use Rattle.cltypes.proofs.Splits.{none_split, none_joined, place_then, places_split, node_split, node_joined, one_place, some_fault}
use Rattle.cltypes.proofs.Tables.{integer_sound, name_sound, name_complete, front_sound, front_complete, address_sound, address_complete, operands_sound, operands_complete}
use Rattle.cltypes.proofs.CallTables.{kinds_of, IsBuiltIn, a_built_in, a_barrier, a_helper, own_sound, calls_sound, IsCalled, calls_complete, own_complete}
use Rattle.cltypes_scope.proofs.Follows.{neither_of}

-- typed where there is no fault

pub as_integer : (c : Context) (e : Term) (k : VariableType) (u : IntType) → k ≡ Number u → Types c e k → Types c e (Number u)
as_integer c e k u h t = subst (λ j. Types c e j) h t

element_sound : (c : Context) (a x : ℕ) (e : Term) → Types c e (kind_of c e) → least (front_faults (meaning c x) a ++ integer_faults (kind_of c e) (start e)) ≡ None
    → Types c (tree.Element a x e) (front_kind (meaning c x))
element_sound c a x e t n =
    let r = none_split (front_faults (meaning c x) a) (integer_faults (kind_of c e) (start e)) n in
    let p = front_sound (meaning c x) a r.0 in
    let u = integer_sound (kind_of c e) (start e) r.1 in
    subst (λ k. Types c (tree.Element a x e) k) (sym p.kind) (rule.element p.is p.typed (as_integer c e (kind_of c e) u.0 u.1 t))

element_address_sound : (c : Context) (a b x : ℕ) (e : Term) → Types c e (kind_of c e) → least (address_faults (meaning c x) a b ++ integer_faults (kind_of c e) (start e)) ≡ None
    → Types c (tree.ElementAddress a b x e) (name_kind (meaning c x))
element_address_sound c a b x e t n =
    let r = none_split (address_faults (meaning c x) a b) (integer_faults (kind_of c e) (start e)) n in
    let p = address_sound (meaning c x) a b r.0 in
    let u = integer_sound (kind_of c e) (start e) r.1 in
    subst (λ k. Types c (tree.ElementAddress a b x e) k) (sym p.kind) (rule.address p.is p.typed (as_integer c e (kind_of c e) u.0 u.1 t))

dereference_sound : (c : Context) (a b : ℕ) (e : Term) (k : VariableType) → Types c e k → least (pointer_faults k b) ≡ None → Types c (tree.Dereference a e) (element_kind k)
dereference_sound c a b e (Pointer p) t n = rule.dereference t
dereference_sound c a b e (Number u) t n = absurd (some_fault (fault.TypeMismatch b) [] n)

unary_sound : (c : Context) (a b : ℕ) (op : UnaryOperator) (e : Term) (k : VariableType) → Types c e k → least (integer_faults k b) ≡ None → Types c (tree.Unary a op e) (unary_type op k)
unary_sound c a b op e (Number u) t n = rule.unary t
unary_sound c a b op e (Pointer p) t n = absurd (some_fault (fault.TypeMismatch b) [] n)

cast_sound : (c : Context) (a b : ℕ) (s : IntType) (e : Term) (k : VariableType) → Types c e k → least (integer_faults k b) ≡ None → Types c (tree.Cast a s e) (Number s)
cast_sound c a b s e (Number u) t n = rule.cast t
cast_sound c a b s e (Pointer p) t n = absurd (some_fault (fault.TypeMismatch b) [] n)

choice_sound : (c : Context) (a p q r : ℕ) (e d f : Term) (i j k : VariableType) → Types c e i → Types c d j → Types c f k
    → least (integer_faults i p ++ integer_faults j q ++ integer_faults k r) ≡ None → Types c (tree.Choice a e d f) (choice_type j k)
choice_sound c a p q r e d f (Number s) (Number t) (Number u) x y z n = rule.choice x y z
choice_sound c a p q r e d f (Pointer o) j k x y z n =
    absurd (some_fault (fault.TypeMismatch p) [] (none_split (fault.TypeMismatch p ∷ []) (integer_faults j q) (none_split (fault.TypeMismatch p ∷ integer_faults j q) (integer_faults k r) n).0).0)
choice_sound c a p q r e d f (Number s) (Pointer o) k x y z n = absurd (some_fault (fault.TypeMismatch q) (integer_faults k r) n)
choice_sound c a p q r e d f (Number s) (Number t) (Pointer o) x y z n = absurd (some_fault (fault.TypeMismatch r) [] n)

-- a call of a built-in function
pub built_in_sound : (c : Context) (a x : ℕ) (es : Terms) (f : IsBuiltIn (meaning c x) (count es)) → TypesAll c es (kinds_of c es)
    → least (arguments_faults c (wanted (meaning c x)) es) ≡ None → Types c (tree.Call a x es) (call_kind (meaning c x) (first_kind c es))
built_in_sound c a x es f all n =
    subst (λ v. Types c (tree.Call a x es) (call_kind v (first_kind c es))) (sym f.is)
    (rule.call f.is all (calls_sound c f.function es f.counted (subst (λ v. least (arguments_faults c (wanted v) es) ≡ None) f.is n)))

call_sound : (c : Context) (a x : ℕ) (es : Terms) → TypesAll (inside_call (meaning c x) c) es (kinds_of (inside_call (meaning c x) c) es)
    → least (call_faults c Inside (meaning c x) a es) ≡ None → Types c (tree.Call a x es) (call_kind (meaning c x) (first_kind c es))
call_sound c a x es all n =
    let m = meaning c x in
    let s = own_sound c Inside m a es n in
    elim s.callee [
      | a_built_in f ↦ let same : inside_call m c ≡ c = ap (λ z. inside_call z c) f.is in
          built_in_sound c a x es f (subst (λ d. TypesAll d es (kinds_of d es)) same all) (subst (λ d. least (arguments_faults d (wanted m) es) ≡ None) same s.arguments)
      | a_barrier b ↦ absurd (true≢false (sym b.placed))
      | a_helper h ↦ absurd (true≢false (sym h.placed))
    ]

mutual
  pub term_sound : (c : Context) (e : Term) → first (term_faults c e) ≡ None → Types c e (kind_of c e)
  term_sound c (tree.Number a v) n = rule.number
  term_sound c (tree.Variable a x) n = let r = name_sound (meaning c x) a (one_place (name_faults (meaning c x) a) n) in rule.variable r.is r.typed
  term_sound c (tree.Element a x e) n =
      let r = node_split (term_faults c e) (front_faults (meaning c x) a ++ integer_faults (kind_of c e) (start e)) n in
      element_sound c a x e (term_sound c e r.0) r.1
  term_sound c (tree.ElementAddress a b x e) n =
      let r = node_split (term_faults c e) (address_faults (meaning c x) a b ++ integer_faults (kind_of c e) (start e)) n in
      element_address_sound c a b x e (term_sound c e r.0) r.1
  term_sound c (tree.Dereference a e) n =
      let r = node_split (term_faults c e) (pointer_faults (kind_of c e) (start e)) n in
      dereference_sound c a (start e) e (kind_of c e) (term_sound c e r.0) r.1
  term_sound c (tree.Call a x es) n =
      let d = inside_call (meaning c x) c in
      let r = node_split (terms_faults d es) (call_faults c Inside (meaning c x) a es) n in
      call_sound c a x es (terms_sound d es r.0) r.1
  term_sound c (tree.Unary a op e) n =
      let r = node_split (term_faults c e) (integer_faults (kind_of c e) (start e)) n in
      unary_sound c a (start e) op e (kind_of c e) (term_sound c e r.0) r.1
  term_sound c (tree.Cast a t e) n =
      let r = node_split (term_faults c e) (integer_faults (kind_of c e) (start e)) n in
      cast_sound c a (start e) t e (kind_of c e) (term_sound c e r.0) r.1
  term_sound c (tree.Binary a op d e) n =
      let r = node_split (term_faults c d ++ term_faults c e) (operand_faults op (kind_of c d) (kind_of c e) (start d) (start e)) n in
      let s = places_split (term_faults c d) (term_faults c e) r.0 in
      rule.binary (term_sound c d s.0) (term_sound c e s.1) (operands_sound op (kind_of c d) (kind_of c e) (start d) (start e) r.1)
  term_sound c (tree.Choice a e d f) n =
      let r = node_split (term_faults c e ++ term_faults c d ++ term_faults c f) (integer_faults (kind_of c e) (start e) ++ integer_faults (kind_of c d) (start d) ++ integer_faults (kind_of c f) (start f)) n in
      let s = places_split (term_faults c e ++ term_faults c d) (term_faults c f) r.0 in
      let t = places_split (term_faults c e) (term_faults c d) s.0 in
      choice_sound c a (start e) (start d) (start f) e d f (kind_of c e) (kind_of c d) (kind_of c f) (term_sound c e t.0) (term_sound c d t.1) (term_sound c f s.1) r.1

  pub terms_sound : (c : Context) (es : Terms) → first (terms_faults c es) ≡ None → TypesAll c es (kinds_of c es)
  terms_sound c NoTerm n = rule.no_argument
  terms_sound c (ThenTerm es e) n =
      let r = places_split (terms_faults c es) (term_faults c e) n in
      rule.argument (terms_sound c es r.0) (term_sound c e r.1)

-- no fault where it is typed

-- an expression without a fault, of this type
pub record IsOf (c : Context) (e : Term) (k : VariableType) : Type 0 where
  pub faultless : first (term_faults c e) ≡ None
  pub same : kind_of c e ≡ k

-- arguments without a fault inside them, of these types
pub record AreOf (c : Context) (es : Terms) (ks : List VariableType) : Type 0 where
  pub faultless : first (terms_faults c es) ≡ None
  pub same : kinds_of c es ≡ ks

indexed : (c : Context) (e : Term) (u : IntType) (fs : List TypeFault) → least fs ≡ None → kind_of c e ≡ Number u → least (fs ++ integer_faults (kind_of c e) (start e)) ≡ None
indexed c e u fs n h = none_joined fs (integer_faults (kind_of c e) (start e)) n (subst (λ k. least (integer_faults k (start e)) ≡ None) (sym h) refl)

chosen : (c : Context) (e d f : Term) (s t u : IntType) → kind_of c e ≡ Number s → kind_of c d ≡ Number t → kind_of c f ≡ Number u
    → least (integer_faults (kind_of c e) (start e) ++ integer_faults (kind_of c d) (start d) ++ integer_faults (kind_of c f) (start f)) ≡ None
chosen c e d f s t u x y z = rw (x, y, z) refl

pub call_complete : (c : Context) (spot : Spot) (a x : ℕ) (f : BuiltIn) (es : Terms) (ks : List VariableType) (r : VariableType)
    → meaning c x ≡ BuiltInFunction f → AreOf c es ks → IsCalled c f es r
    → first (node (terms_faults (inside_call (meaning c x) c) es) (call_faults c spot (meaning c x) a es)) ≡ None
call_complete c spot a x f es ks r m h g =
    subst (λ v. first (node (terms_faults (inside_call v c) es) (call_faults c spot v a es)) ≡ None) (sym m)
    (node_joined (terms_faults c es) (call_faults c spot (BuiltInFunction f) a es) h.faultless (own_complete c spot f a es r g))

mutual
  pub term_complete : (c : Context) (e : Term) (k : VariableType) → Types c e k → IsOf c e k
  term_complete c _ _ rule.number = record { faultless = refl; same = refl }
  term_complete c _ _ (rule.variable {a = a} {x = x} {d = d} {k = k} m v) = record {
    faultless = subst (λ z. first (name_faults z a ∷ []) ≡ None) (sym m) (place_then (name_faults (Bound d) a) [] (name_complete d k a v) refl);
    same = ap name_kind m ∙ ap type_or_int v;
  }
  term_complete c _ _ (rule.element {a = a} {x = x} {d = d} {t = t} {u = u} {e = e} m v h) =
      let r = term_complete c e (Number u) h in
      let front = subst (λ z. least (front_faults z a) ≡ None) (sym m) (front_complete d t a v) in
      record {
        faultless = node_joined (term_faults c e) (front_faults (meaning c x) a ++ integer_faults (kind_of c e) (start e)) r.faultless (indexed c e u (front_faults (meaning c x) a) front r.same);
        same = ap front_kind m ∙ ap number_or_int v;
      }
  term_complete c _ _ (rule.address {a = a} {b = b} {x = x} {d = d} {p = p} {u = u} {e = e} m v h) =
      let r = term_complete c e (Number u) h in
      let address = subst (λ z. least (address_faults z a b) ≡ None) (sym m) (address_complete d p a b v) in
      record {
        faultless = node_joined (term_faults c e) (address_faults (meaning c x) a b ++ integer_faults (kind_of c e) (start e)) r.faultless (indexed c e u (address_faults (meaning c x) a b) address r.same);
        same = ap name_kind m ∙ ap type_or_int v;
      }
  term_complete c _ _ (rule.dereference {a = a} {p = p} {e = e} h) =
      let r = term_complete c e (Pointer p) h in
      record {
        faultless = node_joined (term_faults c e) (pointer_faults (kind_of c e) (start e)) r.faultless (subst (λ v. least (pointer_faults v (start e)) ≡ None) (sym r.same) refl);
        same = ap element_kind r.same;
      }
  term_complete c _ _ (rule.call {a = a} {x = x} {f = f} {es = es} {ks = ks} {k = k} m h g) =
      let r = terms_complete c es ks h in
      let s = calls_complete c f es ks k g r.same in
      record {
        faultless = call_complete c Inside a x f es ks k m r s;
        same = ap (λ v. call_kind v (first_kind c es)) m ∙ s.gives;
      }
  term_complete c _ _ (rule.unary {a = a} {op = op} {t = t} {e = e} h) =
      let r = term_complete c e (Number t) h in
      record {
        faultless = node_joined (term_faults c e) (integer_faults (kind_of c e) (start e)) r.faultless (subst (λ v. least (integer_faults v (start e)) ≡ None) (sym r.same) refl);
        same = ap (unary_type op) r.same;
      }
  term_complete c _ _ (rule.cast {a = a} {t = t} {u = u} {e = e} h) =
      let r = term_complete c e (Number u) h in
      record {
        faultless = node_joined (term_faults c e) (integer_faults (kind_of c e) (start e)) r.faultless (subst (λ v. least (integer_faults v (start e)) ≡ None) (sym r.same) refl);
        same = refl;
      }
  term_complete c _ _ (rule.binary {a = a} {op = op} {d = d} {e = e} {j = j} {k = k} {r = r} x y o) =
      let s = term_complete c d j x in
      let t = term_complete c e k y in
      let w = operands_complete op j k r (start d) (start e) o in
      record {
        faultless = node_joined (term_faults c d ++ term_faults c e) (operand_faults op (kind_of c d) (kind_of c e) (start d) (start e))
            (neither_of (term_faults c d) (term_faults c e) s.faultless t.faultless)
            (subst (λ v. least (operand_faults op v (kind_of c e) (start d) (start e)) ≡ None) (sym s.same)
            (subst (λ v. least (operand_faults op j v (start d) (start e)) ≡ None) (sym t.same) w.0));
        same = ap (λ v. binary_type op v (kind_of c e)) s.same ∙ ap (λ v. binary_type op j v) t.same ∙ w.1;
      }
  term_complete c _ _ (rule.choice {a = a} {s = s} {t = t} {u = u} {e = e} {d = d} {f = f} x y z) =
      let p = term_complete c e (Number s) x in
      let q = term_complete c d (Number t) y in
      let r = term_complete c f (Number u) z in
      record {
        faultless = node_joined (term_faults c e ++ term_faults c d ++ term_faults c f) (integer_faults (kind_of c e) (start e) ++ integer_faults (kind_of c d) (start d) ++ integer_faults (kind_of c f) (start f))
            (neither_of (term_faults c e ++ term_faults c d) (term_faults c f) (neither_of (term_faults c e) (term_faults c d) p.faultless q.faultless) r.faultless)
            (chosen c e d f s t u p.same q.same r.same);
        same = ap (λ v. choice_type v (kind_of c f)) q.same ∙ ap (λ v. choice_type (Number t) v) r.same;
      }

  pub terms_complete : (c : Context) (es : Terms) (ks : List VariableType) → TypesAll c es ks → AreOf c es ks
  terms_complete c _ _ rule.no_argument = record { faultless = refl; same = refl }
  terms_complete c _ _ (rule.argument {es = es} {e = e} {ks = ks} {k = k} all one) =
      let r = terms_complete c es ks all in
      let s = term_complete c e k one in
      record {
        faultless = neither_of (terms_faults c es) (term_faults c e) r.faultless s.faultless;
        same = ap (λ v. v ++ kind_of c e ∷ []) r.same ∙ ap (λ v. ks ++ v ∷ []) s.same;
      }
