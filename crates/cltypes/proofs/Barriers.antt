-- A barrier is typed exactly where it has no fault.
use Rattle.std.proofs.Common.{◌≡◌, ℕ, true, [], Option, None, Some, is_some, refl, sym, ap, subst}
use Rattle.clnum.specs.declared.int_type.IntType.{IntType}
use Rattle.clnum.specs.declared.int_type.IntType.TheVariants.{Uint}
use Rattle.clnum.specs.declared.operators.BinaryOperator.TheVariants.{BitOr}
use Rattle.clmodel.specs.Barrier.{fence, both_fences, fences_of, fences}
use Rattle.clmodel.specs.declared.action.Fences.{Fences}
use Rattle.clmodel.specs.declared.tree.InfixOperator.TheVariants.{Arithmetic}
use Rattle.clmodel.specs.declared.tree.VariableType.TheVariants.{Integer as Number}
use Rattle.clmodel.specs.declared.type_fault.TypeFault.TheVariants as fault
use Rattle.clmodel.specs.Tree as tree
use Rattle.clmodel.specs.Tree.{Term, Terms, NoTerm, ThenTerm}
use Rattle.clmodel.specs.Typing.Context.{Context, meaning, Barrier, fenced}
use Rattle.clmodel.specs.Typing.Least.{least, first, node}
use Rattle.clmodel.specs.Typing.Rules as rule
use Rattle.clmodel.specs.Typing.Rules.{Types, count}
use Rattle.clmodel.specs.Typing.Faults.{unless, start, integer_faults, WholeStatement, kind_of, flags_faults, inside_call, call_faults, term_faults, terms_faults}
use Rattle.cltypes_scope.proofs.Fenced.{fence_meaning}
use Rattle.cltypes_scope.proofs.Follows.{neither_of}
use Rattle.cltypes.proofs.Splits.{none_joined, node_joined, unless_none, unless_true}
use Rattle.cltypes.proofs.CallTables.{one_term}
use Rattle.cltypes.proofs.Exact.{term_complete}

-- flags where there is no fault

some_fences : (o : Option Fences) → is_some o ≡ true → (f : Fences) × (o ≡ Some f)
some_fences (Some f) h = (f, refl)
some_fences None h = absurd (cc)

pub flags_sound : (es : Terms) → count es ≡ 1 → least (flags_faults es) ≡ None → (f : Fences) × (fences es ≡ Some f)
flags_sound es h n =
    let r = one_term es h in
    let e = r.0 in
    let o : least (unless (is_some (fences_of e)) (fault.BadBarrierFlags (start e))) ≡ None = subst (λ ts. least (flags_faults ts) ≡ None) r.1 n in
    subst (λ ts. (f : Fences) × (fences ts ≡ Some f)) (sym r.1) (some_fences (fences_of e) (unless_none (is_some (fences_of e)) (fault.BadBarrierFlags (start e)) o))

-- no fault where there are flags

fence_typed : (c : Context) (e : Term) (f : Fences) → fence e ≡ Some f → Types (fenced c) e (Number Uint)
fence_typed c (tree.Variable a x) f h = rule.variable (fence_meaning c x f h) refl
fence_typed c e f h = absurd (cc)

record AreFences (o p : Option Fences) : Type 0 where
  left : Fences
  right : Fences
  is_left : o ≡ Some left
  is_right : p ≡ Some right

both_are : (o p : Option Fences) (f : Fences) → both_fences o p ≡ Some f → AreFences o p
both_are (Some l) (Some r) f h = record { left = l; right = r; is_left = refl; is_right = refl }
both_are (Some l) None f h = absurd (cc)
both_are None p f h = absurd (cc)

flags_typed : (c : Context) (e : Term) (f : Fences) → fences_of e ≡ Some f → (t : IntType) × Types (fenced c) e (Number t)
flags_typed c (tree.Variable a x) f h = (Uint, rule.variable (fence_meaning c x f h) refl)
flags_typed c (tree.Binary a (Arithmetic BitOr) d e) f h =
    let r = both_are (fence d) (fence e) f h in
    (_, rule.binary (fence_typed c d r.left r.is_left) (fence_typed c e r.right r.is_right) rule.arithmetic)
flags_typed c e f h = absurd (cc)

one_flag : (es : Terms) (f : Fences) → fences es ≡ Some f → (e : Term) × (es ≡ ThenTerm NoTerm e) × (fences_of e ≡ Some f)
one_flag (ThenTerm NoTerm e) f h = (e, refl, h)
one_flag NoTerm f h = absurd (cc)
one_flag (ThenTerm (ThenTerm es d) e) f h = absurd (cc)

flag_complete : (c : Context) (a : ℕ) (e : Term) (f : Fences) → fences_of e ≡ Some f
    → first (node (terms_faults (fenced c) (ThenTerm NoTerm e)) (call_faults c WholeStatement Barrier a (ThenTerm NoTerm e))) ≡ None
flag_complete c a e f h =
    let t = flags_typed c e f h in
    let r = term_complete (fenced c) e (Number t.0) t.1 in
    let given = integer_faults (kind_of (fenced c) e) (start e) in
    let flags = unless (is_some (fences_of e)) (fault.BadBarrierFlags (start e)) in
    node_joined (terms_faults (fenced c) (ThenTerm NoTerm e)) (call_faults c WholeStatement Barrier a (ThenTerm NoTerm e)) (neither_of [] (term_faults (fenced c) e) refl r.faultless)
    (none_joined given flags (subst (λ k. least (integer_faults k (start e)) ≡ None) (sym r.same) refl) (unless_true (is_some (fences_of e)) (fault.BadBarrierFlags (start e)) (ap is_some h)))

pub barrier_complete : (c : Context) (a x : ℕ) (es : Terms) (f : Fences) → meaning c x ≡ Barrier → fences es ≡ Some f
    → first (node (terms_faults (inside_call (meaning c x) c) es) (call_faults c WholeStatement (meaning c x) a es)) ≡ None
barrier_complete c a x es f m h =
    let r = one_flag es f h in
    subst (λ v. first (node (terms_faults (inside_call v c) es) (call_faults c WholeStatement v a es)) ≡ None) (sym m)
    (subst (λ ts. first (node (terms_faults (fenced c) ts) (call_faults c WholeStatement Barrier a ts)) ≡ None) (sym r.1) (flag_complete c a r.0 f r.2))
