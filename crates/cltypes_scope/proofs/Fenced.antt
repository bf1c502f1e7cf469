-- What is known in the arguments of a barrier, and contexts in which each name stands for the same.
use Rattle.std.proofs.Common.{◌≡◌, ℕ, zero, suc, ◌+◌, List, [], ◌∷◌, ◌++◌, Option, None, Some, Result, is_some, true, refl, sym, ap, ◌∙◌, subst, arith}
use Rattle.std.specs.List.{slice_get}
use Rattle.std.specs.Option.{option_or}
use Rattle.clnum.specs.declared.int_type.IntType.TheVariants.{Uint}
use Rattle.clmodel.specs.Barrier.{fence_in, fence_named}
use Rattle.clmodel.specs.BuiltIns.{predefined, meanings}
use Rattle.clmodel.specs.declared.action.Fences.{Fences}
use Rattle.clmodel.specs.declared.setup.Predefined.{Predefined}
use Rattle.clmodel.specs.declared.setup.Predefined.TheVariants as name
use Rattle.clmodel.specs.declared.declaration.Declaration.{Declaration}
use Rattle.clmodel.specs.declared.declaration.Declaration.TheVariants.{Single}
use Rattle.clmodel.specs.declared.tree.VariableType.TheVariants.{Integer}
use Rattle.clmodel.specs.declared.type_fault.TypeFault.{TypeFault}
use Rattle.clmodel.specs.Tree as tree
use Rattle.clmodel.specs.Tree.{Term, Terms, NoTerm, ThenTerm}
use Rattle.clmodel.specs.Typing.Context.{Context, Meaning, Bound, Callable, Current, BuiltInFunction, Barrier, Unknown, declared, variable, found, function_meaning, meaning, fenced}
use Rattle.clmodel.specs.Typing.Least.{least, first, node}
use Rattle.clmodel.specs.Typing.Faults.{Inside, Want, start, integer_faults, pointer_faults, name_faults, front_faults, address_faults, operand_faults, argument_faults, name_kind, front_kind, element_kind, unary_type, binary_type, choice_type, call_kind, wanted, kind_of, last_kind, first_kind, arguments_faults, inside_call, call_faults, callee_faults, barrier_faults, term_faults, terms_faults}
use Rattle.clmodel.specs.Typing.Rules.{count}
use Rattle.cltypes_scope.specs.Fenced.{AreAlike}
use Rattle.cltypes_scope.specs.Answers.{Checks}
use Rattle.cltypes_scope.specs.Views.{arguments_of}
use Rattle.cltypes_scope.specs.declared.faults.Arguments.{Arguments}
use Rattle.cltypes_scope.proofs.Follows.{checks_same}

-- a function of two values that are two others
two : {A B D : Type 0} (f : A → B → D) (a x : A) (b y : B) → a ≡ x → b ≡ y → f a b ≡ f x y
two f a x b y p q = ap (λ z. f z b) p ∙ ap (f x) q

-- P holds at each place, from k on, where a list of meanings has a fence
abbrev AtFences : (ℕ → Type 0) → ℕ → List Predefined → Type 0
AtFences P k [] = Unit {0}
AtFences P k (name.Fence f ∷ ms) = P k × AtFences P (suc k) ms
AtFences P k (name.Barrier ∷ ms) = AtFences P (suc k) ms
AtFences P k (name.Function g ∷ ms) = AtFences P (suc k) ms

at_fence : (P : ℕ → Type 0) (k i : ℕ) (ms : List Predefined) (f : Fences) → AtFences P k ms → fence_in (slice_get ms i) ≡ Some f → P (k + i)
at_fence P k i [] f a h = absurd (cc)
at_fence P k zero (name.Fence g ∷ ms) f a h = let same : k ≡ k + 0 = omega arith in subst P same a.0
at_fence P k zero (name.Barrier ∷ ms) f a h = absurd (cc)
at_fence P k zero (name.Function g ∷ ms) f a h = absurd (cc)
at_fence P k (suc i) (name.Fence g ∷ ms) f a h = let same : suc k + i ≡ k + suc i = omega arith in subst P same (at_fence P (suc k) i ms f a.1 h)
at_fence P k (suc i) (name.Barrier ∷ ms) f a h = let same : suc k + i ≡ k + suc i = omega arith in subst P same (at_fence P (suc k) i ms f a h)
at_fence P k (suc i) (name.Function g ∷ ms) f a h = let same : suc k + i ≡ k + suc i = omega arith in subst P same (at_fence P (suc k) i ms f a h)

-- the name of a fence, in the arguments of a barrier
pub fence_meaning : (c : Context) (x : ℕ) (f : Fences) → fence_named x ≡ Some f → meaning (fenced c) x ≡ Bound (Single (Integer Uint))
fence_meaning c x f h =
    let same : 0 + x ≡ x = omega arith in
    ap (meaning (fenced c)) (sym same) ∙ at_fence (λ y. meaning (fenced c) y ≡ Bound (Single (Integer Uint))) 0 x (meanings predefined) f (refl, (refl, tt)) h

some_fence : (c : Context) (x : ℕ) (o : Option Fences) → fence_named x ≡ o → is_some o ≡ true → meaning (fenced c) x ≡ Bound (Single (Integer Uint))
some_fence c x None h e = absurd (cc)
some_fence c x (Some f) h e = fence_meaning c x f h

pub fence_stands : (c : Context) (x : ℕ) → is_some (fence_named x) ≡ true → meaning (fenced c) x ≡ Bound (Single (Integer Uint))
fence_stands c x e = some_fence c x (fence_named x) refl e

-- names

found_over : (o p : Option Declaration) (m : Meaning) → found (option_or o p) m ≡ found o (found p m)
found_over None p m = refl
found_over (Some k) p m = refl

found_again : (o : Option Declaration) (m : Meaning) → found o m ≡ found o (found o m)
found_again None m = refl
found_again (Some k) m = refl

pub fenced_meaning : (c : Context) (x : ℕ) → meaning (fenced c) x ≡ found (declared (fenced c).inner x) (meaning c x)
fenced_meaning c x = found_over (declared (fenced c).inner x) (variable (c.inner ∷ c.outer) x) (function_meaning c x)

pub fenced_alike : (c d : Context) → AreAlike c d → AreAlike (fenced c) (fenced d)
fenced_alike c d h x = fenced_meaning c x ∙ ap (found (declared (fenced c).inner x)) (h x) ∙ sym (fenced_meaning d x)

pub fenced_again : (c : Context) → AreAlike (fenced c) (fenced (fenced c))
fenced_again c x =
    let o = declared (fenced c).inner x in
    fenced_meaning c x ∙ found_again o (meaning c x) ∙ ap (found o) (sym (fenced_meaning c x)) ∙ sym (fenced_meaning (fenced c) x)

pub inside_alike : (m : Meaning) (c d : Context) → AreAlike c d → AreAlike (inside_call m c) (inside_call m d)
inside_alike Barrier c d h = fenced_alike c d h
inside_alike (Bound k) c d h = h
inside_alike (Callable s) c d h = h
inside_alike (Current s) c d h = h
inside_alike (BuiltInFunction f) c d h = h
inside_alike Unknown c d h = h

-- expressions

pub record IsSame (c d : Context) (e : Term) : Type 0 where
  pub faults : term_faults c e ≡ term_faults d e
  pub kind : kind_of c e ≡ kind_of d e

pub record AreSame (c d : Context) (es : Terms) : Type 0 where
  pub faults : terms_faults c es ≡ terms_faults d es
  pub last : last_kind c es ≡ last_kind d es
  pub first : first_kind c es ≡ first_kind d es
  pub own : (ws : List Want) → arguments_faults c ws es ≡ arguments_faults d ws es

-- the kind that a call gives, by the first argument
pub call_first : (m : Meaning) (c : Context) (es : Terms) → call_kind m (first_kind (inside_call m c) es) ≡ call_kind m (first_kind c es)
call_first Barrier c es = refl
call_first (Bound k) c es = refl
call_first (Callable s) c es = refl
call_first (Current s) c es = refl
call_first (BuiltInFunction f) c es = refl
call_first Unknown c es = refl

-- the kind of the first of one argument more
first_same : (c d : Context) (es : Terms) (e : Term) → first_kind c es ≡ first_kind d es → kind_of c e ≡ kind_of d e → first_kind c (ThenTerm es e) ≡ first_kind d (ThenTerm es e)
first_same c d NoTerm e h k = k
first_same c d (ThenTerm es f) e h k = h

mutual
  pub term_same : (c d : Context) → AreAlike c d → (e : Term) → IsSame c d e
  term_same c d h (tree.Number a v) = record { faults = refl; kind = refl }
  term_same c d h (tree.Variable a x) = record { faults = ap (λ m. name_faults m a ∷ []) (h x); kind = ap name_kind (h x) }
  term_same c d h (tree.Element a x e) =
      let r = term_same c d h e in
      record {
        faults = two node (term_faults c e) (term_faults d e) _ _ r.faults
            (two (λ m k. front_faults m a ++ integer_faults k (start e)) (meaning c x) (meaning d x) (kind_of c e) (kind_of d e) (h x) r.kind);
        kind = ap front_kind (h x);
      }
  term_same c d h (tree.ElementAddress a b x e) =
      let r = term_same c d h e in
      record {
        faults = two node (term_faults c e) (term_faults d e) _ _ r.faults
            (two (λ m k. address_faults m a b ++ integer_faults k (start e)) (meaning c x) (meaning d x) (kind_of c e) (kind_of d e) (h x) r.kind);
        kind = ap name_kind (h x);
      }
  term_same c d h (tree.Dereference a e) =
      let r = term_same c d h e in
      record { faults = two node (term_faults c e) (term_faults d e) _ _ r.faults (ap (λ k. pointer_faults k (start e)) r.kind); kind = ap element_kind r.kind }
  term_same c d h (tree.Call a x es) =
      let m = meaning c x in
      let r = terms_same (inside_call m c) (inside_call m d) (inside_alike m c d h) es in
      let s = terms_same c d h es in
      record {
        faults = two node (terms_faults (inside_call m c) es) (terms_faults (inside_call m d) es) (call_faults c Inside m a es) (call_faults d Inside m a es)
            r.faults (ap (λ fs. callee_faults Inside m a (count es) ++ fs ++ barrier_faults m es) (r.own (wanted m)))
            ∙ ap (λ z. node (terms_faults (inside_call z d) es) (call_faults d Inside z a es)) (h x);
        kind = two call_kind m (meaning d x) (first_kind c es) (first_kind d es) (h x) s.first;
      }
  term_same c d h (tree.Unary a op e) =
      let r = term_same c d h e in
      record { faults = two node (term_faults c e) (term_faults d e) _ _ r.faults (ap (λ k. integer_faults k (start e)) r.kind); kind = ap (unary_type op) r.kind }
  term_same c d h (tree.Cast a t e) =
      let r = term_same c d h e in
      record { faults = two node (term_faults c e) (term_faults d e) _ _ r.faults (ap (λ k. integer_faults k (start e)) r.kind); kind = refl }
  term_same c d h (tree.Binary a op e f) =
      let r = term_same c d h e in
      let s = term_same c d h f in
      record {
        faults = two node (term_faults c e ++ term_faults c f) (term_faults d e ++ term_faults d f) _ _
            (two (λ ps qs. ps ++ qs) (term_faults c e) (term_faults d e) (term_faults c f) (term_faults d f) r.faults s.faults)
            (two (λ j k. operand_faults op j k (start e) (start f)) (kind_of c e) (kind_of d e) (kind_of c f) (kind_of d f) r.kind s.kind);
        kind = two (binary_type op) (kind_of c e) (kind_of d e) (kind_of c f) (kind_of d f) r.kind s.kind;
      }
  term_same c d h (tree.Choice a e f g) =
      let r = term_same c d h e in
      let s = term_same c d h f in
      let t = term_same c d h g in
      record {
        faults = two node (term_faults c e ++ term_faults c f ++ term_faults c g) (term_faults d e ++ term_faults d f ++ term_faults d g) _ _
            (two (λ ps qs. ps ++ qs) (term_faults c e ++ term_faults c f) (term_faults d e ++ term_faults d f) (term_faults c g) (term_faults d g)
            (two (λ ps qs. ps ++ qs) (term_faults c e) (term_faults d e) (term_faults c f) (term_faults d f) r.faults s.faults) t.faults)
            (two (λ fs gs. fs ++ gs) (integer_faults (kind_of c e) (start e) ++ integer_faults (kind_of c f) (start f)) (integer_faults (kind_of d e) (start e) ++ integer_faults (kind_of d f) (start f)) _ _
            (two (λ j k. integer_faults j (start e) ++ integer_faults k (start f)) (kind_of c e) (kind_of d e) (kind_of c f) (kind_of d f) r.kind s.kind)
            (ap (λ k. integer_faults k (start g)) t.kind));
        kind = two choice_type (kind_of c f) (kind_of d f) (kind_of c g) (kind_of d g) s.kind t.kind;
      }

  pub terms_same : (c d : Context) → AreAlike c d → (es : Terms) → AreSame c d es
  terms_same c d h NoTerm = record { faults = refl; last = refl; first = refl; own = λ ws. refl }
  terms_same c d h (ThenTerm es e) =
      let r = terms_same c d h es in
      let s = term_same c d h e in
      record {
        faults = two (λ ps qs. ps ++ qs) (terms_faults c es) (terms_faults d es) (term_faults c e) (term_faults d e) r.faults s.faults;
        last = s.kind;
        first = first_same c d es e r.first s.kind;
        own = λ ws.
            two (λ fs gs. fs ++ gs) (arguments_faults c ws es) (arguments_faults d ws es) _ _ (r.own ws)
            (two (λ j k. argument_faults (slice_get ws (count es)) j k (start e)) (last_kind c es) (last_kind d es) (kind_of c e) (kind_of d e) r.last s.kind);
      }

-- what is checked of arguments, in another context with the same names
pub arguments_same : (c d : Context) (m : Meaning) (es : Terms) (r : Result Arguments TypeFault) → AreAlike c d
    → Checks r (first (terms_faults c es)) (arguments_of c m es) → Checks r (first (terms_faults d es)) (arguments_of d m es)
arguments_same c d m es r h =
    let s = terms_same c d h es in
    checks_same r (first (terms_faults c es)) (first (terms_faults d es)) (arguments_of c m es) (arguments_of d m es) (ap first s.faults)
    (two (λ fs k. record { fault = least fs; first = k }) (arguments_faults c (wanted m) es) (arguments_faults d (wanted m) es) (first_kind c es) (first_kind d es) (s.own (wanted m)) s.first)
