-- A statement is typed exactly where none of its places has a fault.
use Rattle.std.proofs.Common.{◌≡◌, ℕ, ◌≤◌, Bool, true, not, ◌&&◌, ◌||◌, nat_le, [], ◌∷◌, ◌++◌, Option, None, Some, is_some, refl, sym, ap, ◌∙◌, subst}
use Rattle.clnum.specs.Integer.{Integer}
use Rattle.clnum.specs.declared.int_type.IntType.{IntType}
use Rattle.clnum.specs.declared.operators.BinaryOperator.{BinaryOperator}
use Rattle.clmodel.specs.declared.tree.VariableType.{VariableType}
use Rattle.clmodel.specs.declared.tree.VariableType.TheVariants.{Integer as Number, Pointer}
use Rattle.clmodel.specs.declared.type_fault.TypeFault.TheVariants as fault
use Rattle.clmodel.specs.Tree as tree
use Rattle.clmodel.specs.Tree.{Term, Terms, array_length, Target, Stmt, Stmts, NoStmt, ThenStmt, MaybeStmt, Without, With, MaybeTerm, WithoutTerm, WithTerm}
use Rattle.clmodel.specs.declared.declaration.Declaration.TheVariants.{Single}
use Rattle.clmodel.specs.Typing.Context.{Context, meaning, Bound, is_outermost, is_free, bind, enter, turning, for_context, after_all}
use Rattle.clmodel.specs.Typing.Least.{least, first, node}
use Rattle.clmodel.specs.Typing.Rules as rule
use Rattle.clmodel.specs.Typing.Rules.{is_stored, Types, TypesTarget, IsCondition, IsTyped, IsTypedPart, AreTyped}
use Rattle.clmodel.specs.Typing.Faults.{unless, start, target_start, integer_faults, pointer_faults, passing_faults, whole_faults, front_faults, assigning_faults, WholeStatement, wanted, name_kind, number_or_int, front_kind, element_kind, kind_of, arguments_faults, inside_call, barrier_faults, call_faults, term_faults, terms_faults, store_faults, stored_faults, element_target_faults, target_faults, target_kind, value_faults, void_faults, declared_faults, array_faults, initial_faults, assignment_faults, condition_parts, condition_faults, return_faults, faults, part_faults, row_faults}
use Rattle.clmodel.proofs.Conflicts.{or_at, or_made}
use Rattle.cltypes_scope.proofs.Least.{earlier_none}
use Rattle.cltypes_scope.proofs.Follows.{neither_of}
use Rattle.cltypes.proofs.Splits.{none_split, none_joined, places_split, node_split, node_joined, one_place, place_then, some_fault, unless_none, unless_true, and_true, and_left, and_right, same_le, le_test}
use Rattle.cltypes.proofs.Tables.{integer_sound, whole_sound, front_sound, front_complete, passing_sound, passing_complete, assigning_sound, assigning_complete, store_sound, store_complete}
use Rattle.cltypes.proofs.CallTables.{a_built_in, a_barrier, a_helper, own_sound, calls_sound, calls_complete}
use Rattle.cltypes.proofs.Barriers.{flags_sound, barrier_complete}
use Rattle.cltypes.proofs.Exact.{as_integer, term_sound, terms_sound, term_complete, terms_complete, call_complete}
use Rattle.cltypes.proofs.Helpers.{some_type, helper_sound, helper_faultless, value_sound, value_complete}

-- typed where there is no fault

behind_sound : (c : Context) (a b : ℕ) (e : Term) (k : VariableType) → Types c e k → least (pointer_faults k b ++ store_faults k a) ≡ None → TypesTarget c (tree.TargetDereference a e) (element_kind k)
behind_sound c a b e (Pointer p) t n = rule.dereference_target (store_sound p a n) t
behind_sound c a b e (Number u) t n = absurd (some_fault (fault.TypeMismatch b) [] n)

target_sound : (c : Context) (p : Target) → first (target_faults c p) ≡ None → TypesTarget c p (target_kind c p)
target_sound c (tree.TargetVariable a x) n = rule.variable_target (whole_sound (meaning c x) a (one_place (whole_faults (meaning c x) a) n))
target_sound c (tree.TargetElement a x e) n =
    let m = meaning c x in
    let r = node_split (term_faults c e) (element_target_faults m a ++ integer_faults (kind_of c e) (start e)) n in
    let s = none_split (element_target_faults m a) (integer_faults (kind_of c e) (start e)) r.1 in
    let t = none_split (front_faults m a) (stored_faults m a) s.0 in
    let p = front_sound m a t.0 in
    let w = unless_none (is_stored p.declared) (fault.NotAssignable a) (subst (λ v. least (stored_faults v a) ≡ None) p.is t.1) in
    let u = integer_sound (kind_of c e) (start e) s.1 in
    subst (λ k. TypesTarget c (tree.TargetElement a x e) k) (sym p.kind)
    (rule.element_target p.is p.typed w (as_integer c e (kind_of c e) u.0 u.1 (term_sound c e r.0)))
target_sound c (tree.TargetDereference a e) n =
    let r = node_split (term_faults c e) (pointer_faults (kind_of c e) (start e) ++ store_faults (kind_of c e) a) n in
    behind_sound c a (start e) e (kind_of c e) (term_sound c e r.0) r.1

assignment_sound : (c : Context) (a : ℕ) (p : Target) (op : Option BinaryOperator) (e : Term) → TypesTarget c p (target_kind c p) → first (value_faults c e) ≡ None
    → least (assignment_faults c p op e) ≡ None → IsTyped c (tree.Assign a p op e)
assignment_sound c a p None e t n o =
    let r = none_split (void_faults c e) (passing_faults (target_kind c p) (kind_of c e) (start e)) o in
    rule.assign t (value_sound c e n r.0) (passing_sound (target_kind c p) (kind_of c e) (start e) r.1)
assignment_sound c a p (Some op) e t n o =
    let r = none_split (void_faults c e) (assigning_faults op (target_kind c p) (kind_of c e) (target_start p) (start e)) o in
    let s = assigning_sound op (target_kind c p) (kind_of c e) (target_start p) (start e) r.1 in
    rule.assign_by t (value_sound c e n r.0) s.operates s.passes

call_sound : (c : Context) (a x : ℕ) (es : Terms) → first (node (terms_faults (inside_call (meaning c x) c) es) (call_faults c WholeStatement (meaning c x) a es)) ≡ None → IsTyped c (tree.CallOnly a x es)
call_sound c a x es n =
    let m = meaning c x in
    let r = node_split (terms_faults (inside_call m c) es) (call_faults c WholeStatement m a es) n in
    let s = own_sound c WholeStatement m a es r.1 in
    elim s.callee [
      | a_built_in f ↦ rule.call_only f.is (terms_sound c es (subst (λ v. first (terms_faults (inside_call v c) es) ≡ None) f.is r.0))
          (calls_sound c f.function es f.counted (subst (λ v. least (arguments_faults (inside_call v c) (wanted v) es) ≡ None) f.is s.arguments))
      | a_barrier b ↦ rule.barrier b.is (flags_sound es b.counted (subst (λ v. least (barrier_faults v es) ≡ None) b.is s.flags)).1
      | a_helper h ↦ let same : inside_call m c ≡ c = ap (λ z. inside_call z c) h.is in
          rule.call_helper (helper_sound c WholeStatement x es h (subst (λ d. first (terms_faults d es) ≡ None) same r.0) (subst (λ d. least (arguments_faults d (wanted m) es) ≡ None) same s.arguments))
    ]

-- a condition, as a part and by what is wanted of it
integer_of : (c : Context) (e : Term) → first (term_faults c e) ≡ None → least (integer_faults (kind_of c e) (start e)) ≡ None → (t : IntType) × Types c e (Number t)
integer_of c e n o =
    let u = integer_sound (kind_of c e) (start e) o in
    (u.0, as_integer c e (kind_of c e) u.0 u.1 (term_sound c e n))

condition_sound : (c : Context) (e : MaybeTerm) → first (condition_parts c e) ≡ None → least (condition_faults c e) ≡ None → IsCondition c e
condition_sound c WithoutTerm n o = rule.always
condition_sound c (WithTerm e) n o = rule.condition (integer_of c e n o).1

-- the declaration of an array

array_sound : (c : Context) (a : ℕ) (is_local : Bool) (t : IntType) (b x d : ℕ) (m : Integer) → least (array_faults c is_local b x d m) ≡ None
    → IsTyped c (tree.DeclareArray a is_local t b x d m)
array_sound c a is_local t b x d m n =
    let n1 = nat_le 1 (array_length m) in
    let n2 = nat_le (array_length m) c.limits.elements in
    let stands = not is_local || is_outermost c in
    let r = none_split (declared_faults c b x ++ unless stands (fault.WrongSpace b)) (unless (n1 && n2) (fault.TooLarge d)) n in
    let s = none_split (declared_faults c b x) (unless stands (fault.WrongSpace b)) r.0 in
    let w = unless_none (n1 && n2) (fault.TooLarge d) r.1 in
    rule.declare_array (unless_none (is_free c x) (fault.Redeclared b) s.0) (or_at is_local (is_outermost c) (unless_none stands (fault.WrongSpace b) s.1))
    (same_le 1 (array_length m) (and_left n1 n2 w)) (same_le (array_length m) c.limits.elements (and_right n1 n2 w))

array_complete : (c : Context) (is_local : Bool) (b x d : ℕ) (m : Integer) → is_free c x ≡ true → (is_local ≡ true → is_outermost c ≡ true) → 1 ≤ array_length m
    → array_length m ≤ c.limits.elements → least (array_faults c is_local b x d m) ≡ None
array_complete c is_local b x d m f o l u =
    let n1 = nat_le 1 (array_length m) in
    let n2 = nat_le (array_length m) c.limits.elements in
    let stands = not is_local || is_outermost c in
    none_joined (declared_faults c b x ++ unless stands (fault.WrongSpace b)) (unless (n1 && n2) (fault.TooLarge d))
    (none_joined (declared_faults c b x) (unless stands (fault.WrongSpace b)) (unless_true (is_free c x) (fault.Redeclared b) f)
    (unless_true stands (fault.WrongSpace b) (or_made is_local (is_outermost c) o)))
    (unless_true (n1 && n2) (fault.TooLarge d) (and_true n1 n2 (le_test 1 (array_length m) l) (le_test (array_length m) c.limits.elements u)))

no_type : (o : Option IntType) → not (is_some o) ≡ true → o ≡ None
no_type None h = refl
no_type (Some t) h = absurd (cc)

mutual
  pub sound : (c : Context) (s : Stmt) → first (faults c s) ≡ None → IsTyped c s
  sound c (tree.Empty a) n = rule.empty
  sound c (tree.Block a ss) n = rule.block (row_sound (enter c) ss n)
  sound c (tree.Declare a k b x) n = rule.declare (unless_none (is_free c x) (fault.Redeclared b) (one_place (declared_faults c b x) n))
  sound c (tree.DeclareAs a k b x e) n =
      let d = bind c x (Single k) in
      let r = earlier_none (least (declared_faults c b x)) (first (initial_faults d k e)) n in
      let s = node_split (value_faults d e) (void_faults d e ++ passing_faults k (kind_of d e) (start e)) r.1 in
      let t = none_split (void_faults d e) (passing_faults k (kind_of d e) (start e)) s.1 in
      rule.declare_as (unless_none (is_free c x) (fault.Redeclared b) r.0) (value_sound d e s.0 t.0) (passing_sound k (kind_of d e) (start e) t.1)
  sound c (tree.DeclareArray a is_local t b x d m) n = array_sound c a is_local t b x d m (one_place (array_faults c is_local b x d m) n)
  sound c (tree.Assign a p op e) n =
      let r = node_split (target_faults c p ++ value_faults c e) (assignment_faults c p op e) n in
      let s = places_split (target_faults c p) (value_faults c e) r.0 in
      assignment_sound c a p op e (target_sound c p s.0) s.1 r.1
  sound c (tree.Step a p is_increment) n = rule.step (target_sound c p n)
  sound c (tree.CallOnly a x es) n = call_sound c a x es n
  sound c (tree.If a e s) n =
      let r = node_split (term_faults c e ++ faults (enter c) s) (condition_faults c (WithTerm e)) n in
      let t = places_split (term_faults c e) (faults (enter c) s) r.0 in
      rule.if (integer_of c e t.0 r.1).1 (sound (enter c) s t.1)
  sound c (tree.IfElse a e s r) n =
      let p = node_split (term_faults c e ++ faults (enter c) s ++ faults (enter c) r) (condition_faults c (WithTerm e)) n in
      let q = places_split (term_faults c e ++ faults (enter c) s) (faults (enter c) r) p.0 in
      let t = places_split (term_faults c e) (faults (enter c) s) q.0 in
      rule.if_else (integer_of c e t.0 p.1).1 (sound (enter c) s t.1) (sound (enter c) r q.1)
  sound c (tree.While a e s) n =
      let r = node_split (term_faults c e ++ faults (turning c) s) (condition_faults c (WithTerm e)) n in
      let t = places_split (term_faults c e) (faults (turning c) s) r.0 in
      rule.while (integer_of c e t.0 r.1).1 (sound (turning c) s t.1)
  sound c (tree.DoWhile a s e) n =
      let r = node_split (faults (turning c) s ++ term_faults c e) (condition_faults c (WithTerm e)) n in
      let t = places_split (faults (turning c) s) (term_faults c e) r.0 in
      rule.do_while (sound (turning c) s t.0) (integer_of c e t.1 r.1).1
  sound c (tree.For a begin e third s) n =
      let d = for_context c begin in
      let p = part_faults (enter c) begin in
      let q = condition_parts d e in
      let r = part_faults (enter d) third in
      let t = faults (turning d) s in
      let u = node_split (p ++ q ++ r ++ t) (condition_faults d e) n in
      let v = places_split (p ++ q ++ r) t u.0 in
      let w = places_split (p ++ q) r v.0 in
      let y = places_split p q w.0 in
      rule.for (part_sound (enter c) begin y.0) (condition_sound d e y.1 u.1) (part_sound (enter d) third w.1) (sound (turning d) s v.1)
  sound c (tree.Break a) n = rule.break (unless_none c.in_loop (fault.TypeMismatch a) (one_place (unless c.in_loop (fault.TypeMismatch a)) n))
  sound c (tree.Continue a) n = rule.continue (unless_none c.in_loop (fault.TypeMismatch a) (one_place (unless c.in_loop (fault.TypeMismatch a)) n))
  sound c (tree.Return a) n =
      let b = not (is_some c.signature.result) in
      rule.return (no_type c.signature.result (unless_none b (fault.TypeMismatch a) (one_place (unless b (fault.TypeMismatch a)) n)))
  sound c (tree.ReturnValue a e) n =
      let b = is_some c.signature.result in
      let r = node_split (term_faults c e) (return_faults c a e) n in
      let t = none_split (unless b (fault.TypeMismatch a)) (integer_faults (kind_of c e) (start e)) r.1 in
      rule.return_value (some_type c.signature.result (unless_none b (fault.TypeMismatch a) t.0)).1 (integer_of c e r.0 t.1).1

  part_sound : (c : Context) (s : MaybeStmt) → first (part_faults c s) ≡ None → IsTypedPart c s
  part_sound c Without n = rule.without
  part_sound c (With s) n = rule.part (sound c s n)

  pub row_sound : (c : Context) (ss : Stmts) → first (row_faults c ss) ≡ None → AreTyped c ss
  row_sound c NoStmt n = rule.no_statement
  row_sound c (ThenStmt ss s) n =
      let r = places_split (row_faults c ss) (faults (after_all c ss) s) n in
      rule.statement (row_sound c ss r.0) (sound (after_all c ss) s r.1)

-- no fault where it is typed

-- what can be a target, without a fault, of this type
pub record IsTargetOf (c : Context) (p : Target) (k : VariableType) : Type 0 where
  pub faultless : first (target_faults c p) ≡ None
  pub same : target_kind c p ≡ k

target_complete : (c : Context) (p : Target) (k : VariableType) → TypesTarget c p k → IsTargetOf c p k
target_complete c _ _ (rule.variable_target {a = a} {x = x} m) = record {
  faultless = subst (λ v. first (whole_faults v a ∷ []) ≡ None) (sym m) refl;
  same = ap name_kind m;
}
target_complete c _ _ (rule.element_target {a = a} {x = x} {d = d} {t = t} {u = u} {e = e} m v w h) =
    let r = term_complete c e (Number u) h in
    record {
      faultless = node_joined (term_faults c e) (element_target_faults (meaning c x) a ++ integer_faults (kind_of c e) (start e)) r.faultless
          (none_joined (element_target_faults (meaning c x) a) (integer_faults (kind_of c e) (start e))
          (subst (λ z. least (element_target_faults z a) ≡ None) (sym m)
          (none_joined (front_faults (Bound d) a) (stored_faults (Bound d) a) (front_complete d t a v) (unless_true (is_stored d) (fault.NotAssignable a) w)))
          (subst (λ v. least (integer_faults v (start e)) ≡ None) (sym r.same) refl));
      same = ap front_kind m ∙ ap number_or_int v;
    }
target_complete c _ _ (rule.dereference_target {a = a} {p = p} {e = e} w h) =
    let r = term_complete c e (Pointer p) h in
    record {
      faultless = node_joined (term_faults c e) (pointer_faults (kind_of c e) (start e) ++ store_faults (kind_of c e) a) r.faultless
          (subst (λ v. least (pointer_faults v (start e) ++ store_faults v a) ≡ None) (sym r.same) (store_complete p a w));
      same = ap element_kind r.same;
    }

assigned : (c : Context) (a : ℕ) (p : Target) (op : Option BinaryOperator) (e : Term) → first (target_faults c p) ≡ None → first (value_faults c e) ≡ None
    → least (assignment_faults c p op e) ≡ None → first (faults c (tree.Assign a p op e)) ≡ None
assigned c a p op e x y n =
    node_joined (target_faults c p ++ value_faults c e) (assignment_faults c p op e) (neither_of (target_faults c p) (value_faults c e) x y) n

-- an integer as a condition
record IsInteger (c : Context) (e : Term) : Type 0 where
  faultless : first (term_faults c e) ≡ None
  own : least (integer_faults (kind_of c e) (start e)) ≡ None

integer_complete : (c : Context) (e : Term) (t : IntType) → Types c e (Number t) → IsInteger c e
integer_complete c e t h =
    let r = term_complete c e (Number t) h in
    record { faultless = r.faultless; own = subst (λ v. least (integer_faults v (start e)) ≡ None) (sym r.same) refl }

condition_complete : (c : Context) (e : MaybeTerm) → IsCondition c e → (first (condition_parts c e) ≡ None) × (least (condition_faults c e) ≡ None)
condition_complete c _ rule.always = (refl, refl)
condition_complete c _ (rule.condition {e = e} {t = t} h) = let r = integer_complete c e t h in (r.faultless, r.own)

mutual
  pub complete : (c : Context) (s : Stmt) → IsTyped c s → first (faults c s) ≡ None
  complete _ _ rule.empty = refl
  complete _ _ (rule.block {c = c} {ss = ss} h) = row_complete (enter c) ss h
  complete _ _ (rule.declare {c = c} {b = b} {x = x} f) = place_then (declared_faults c b x) [] (unless_true (is_free c x) (fault.Redeclared b) f) refl
  complete _ _ (rule.declare_as {c = c} {b = b} {x = x} {k = k} {j = j} {e = e} f t p) =
      let d = bind c x (Single k) in
      let r = value_complete d e j t in
      place_then (declared_faults c b x) (initial_faults d k e) (unless_true (is_free c x) (fault.Redeclared b) f)
      (node_joined (value_faults d e) (void_faults d e ++ passing_faults k (kind_of d e) (start e)) r.faultless
      (none_joined (void_faults d e) (passing_faults k (kind_of d e) (start e)) r.given
      (subst (λ v. least (passing_faults k v (start e)) ≡ None) (sym r.same) (passing_complete k j (start e) p))))
  complete _ _ (rule.declare_array {c = c} {b = b} {x = x} {d = d} {is_local = is_local} {n = n} f o l u) =
      place_then (array_faults c is_local b x d n) [] (array_complete c is_local b x d n f o l u) refl
  complete _ _ (rule.assign {c = c} {a = a} {p = p} {e = e} {k = k} {j = j} t u s) =
      let q = target_complete c p k t in
      let r = value_complete c e j u in
      assigned c a p None e q.faultless r.faultless
      (none_joined (void_faults c e) (passing_faults (target_kind c p) (kind_of c e) (start e)) r.given
      (subst (λ v. least (passing_faults v (kind_of c e) (start e)) ≡ None) (sym q.same)
      (subst (λ v. least (passing_faults k v (start e)) ≡ None) (sym r.same) (passing_complete k j (start e) s))))
  complete _ _ (rule.assign_by {c = c} {a = a} {p = p} {op = op} {e = e} {k = k} {j = j} {r = i} t u o s) =
      let q = target_complete c p k t in
      let r = value_complete c e j u in
      assigned c a p (Some op) e q.faultless r.faultless
      (none_joined (void_faults c e) (assigning_faults op (target_kind c p) (kind_of c e) (target_start p) (start e)) r.given
      (subst (λ v. least (assigning_faults op v (kind_of c e) (target_start p) (start e)) ≡ None) (sym q.same)
      (subst (λ v. least (assigning_faults op k v (target_start p) (start e)) ≡ None) (sym r.same) (assigning_complete op k j i (target_start p) (start e) o s))))
  complete _ _ (rule.step {c = c} {p = p} {k = k} t) = (target_complete c p k t).faultless
  complete _ _ (rule.call_only {c = c} {a = a} {x = x} {f = f} {es = es} {ks = ks} {r = r} m h g) =
      let s = terms_complete c es ks h in
      call_complete c WholeStatement a x f es ks r m s (calls_complete c f es ks r g s.same)
  complete _ _ (rule.barrier {c = c} {a = a} {x = x} {es = es} {f = f} m h) = barrier_complete c a x es f m h
  complete _ _ (rule.call_helper {c = c} {a = a} {x = x} {es = es} {s = s} h) = helper_faultless c WholeStatement a x es s refl h
  complete _ _ (rule.if {c = c} {e = e} {s = s} {t = t} h k) =
      let r = integer_complete c e t h in
      node_joined (term_faults c e ++ faults (enter c) s) (condition_faults c (WithTerm e)) (neither_of (term_faults c e) (faults (enter c) s) r.faultless (complete (enter c) s k)) r.own
  complete _ _ (rule.if_else {c = c} {e = e} {s = s} {r = o} {t = t} h k l) =
      let r = integer_complete c e t h in
      node_joined (term_faults c e ++ faults (enter c) s ++ faults (enter c) o) (condition_faults c (WithTerm e))
      (neither_of (term_faults c e ++ faults (enter c) s) (faults (enter c) o)
      (neither_of (term_faults c e) (faults (enter c) s) r.faultless (complete (enter c) s k)) (complete (enter c) o l)) r.own
  complete _ _ (rule.while {c = c} {e = e} {s = s} {t = t} h k) =
      let r = integer_complete c e t h in
      node_joined (term_faults c e ++ faults (turning c) s) (condition_faults c (WithTerm e)) (neither_of (term_faults c e) (faults (turning c) s) r.faultless (complete (turning c) s k)) r.own
  complete _ _ (rule.do_while {c = c} {e = e} {s = s} {t = t} k h) =
      let r = integer_complete c e t h in
      node_joined (faults (turning c) s ++ term_faults c e) (condition_faults c (WithTerm e)) (neither_of (faults (turning c) s) (term_faults c e) (complete (turning c) s k) r.faultless) r.own
  complete _ _ (rule.for {c = c} {first = begin} {third = third} {e = e} {s = s} b h k l) =
      let d = for_context c begin in
      let p = part_faults (enter c) begin in
      let q = condition_parts d e in
      let r = part_faults (enter d) third in
      let t = faults (turning d) s in
      let u = condition_complete d e h in
      node_joined (p ++ q ++ r ++ t) (condition_faults d e)
      (neither_of (p ++ q ++ r) t (neither_of (p ++ q) r (neither_of p q (part_complete (enter c) begin b) u.0) (part_complete (enter d) third k)) (complete (turning d) s l)) u.1
  complete _ _ (rule.break {c = c} {a = a} h) = place_then (unless c.in_loop (fault.TypeMismatch a)) [] (unless_true c.in_loop (fault.TypeMismatch a) h) refl
  complete _ _ (rule.continue {c = c} {a = a} h) = place_then (unless c.in_loop (fault.TypeMismatch a)) [] (unless_true c.in_loop (fault.TypeMismatch a) h) refl
  complete _ _ (rule.return {c = c} {a = a} h) =
      let b = not (is_some c.signature.result) in
      place_then (unless b (fault.TypeMismatch a)) [] (unless_true b (fault.TypeMismatch a) (ap (λ o. not (is_some o)) h)) refl
  complete _ _ (rule.return_value {c = c} {a = a} {e = e} {t = t} {u = u} h k) =
      let b = is_some c.signature.result in
      let r = integer_complete c e u k in
      node_joined (term_faults c e) (return_faults c a e) r.faultless
      (none_joined (unless b (fault.TypeMismatch a)) (integer_faults (kind_of c e) (start e)) (unless_true b (fault.TypeMismatch a) (ap is_some h)) r.own)

  part_complete : (c : Context) (s : MaybeStmt) → IsTypedPart c s → first (part_faults c s) ≡ None
  part_complete _ _ rule.without = refl
  part_complete _ _ (rule.part {c = c} {s = s} h) = complete c s h

  pub row_complete : (c : Context) (ss : Stmts) → AreTyped c ss → first (row_faults c ss) ≡ None
  row_complete c _ rule.no_statement = refl
  row_complete _ _ (rule.statement {c = c} {ss = ss} {s = s} all one) =
      neither_of (row_faults c ss) (faults (after_all c ss) s) (row_complete c ss all) (complete (after_all c ss) s one)
