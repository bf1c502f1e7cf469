-- A call's own faults against the rule of what is called, by the types of its arguments.
use Rattle.std.proofs.Common.{◌≡◌, ℕ, true, false, not, nat_eq, ◌&&◌, List, [], ◌∷◌, ◌++◌, length, None, Some, refl, sym, ap, ◌∙◌, subst, arith}
use Rattle.std.proofs.lemmas.Bool.Decides.{nat_tests}
use Rattle.std.proofs.lemmas.List.{length-append}
use Rattle.std.proofs.lemmas.Bool.{not-true, eqb-true}
use Rattle.clnum.specs.Builtins.{is_same}
use Rattle.clnum.specs.declared.int_type.IntType.{IntType}
use Rattle.clnum.specs.declared.int_type.IntType.TheVariants.{Int, Uint}
use Rattle.clnum.specs.declared.operators.Builtin.TheVariants as integer
use Rattle.clmodel.specs.declared.setup.AtomicFunction.{AtomicFunction}
use Rattle.clmodel.specs.declared.setup.AtomicFunction.TheVariants as atomic
use Rattle.clmodel.specs.declared.setup.BuiltIn.{BuiltIn}
use Rattle.clmodel.specs.declared.setup.BuiltIn.TheVariants as built_in
use Rattle.clmodel.specs.declared.tree.PointerType.{PointerType}
use Rattle.clmodel.specs.declared.tree.VariableType.{VariableType}
use Rattle.clmodel.specs.declared.tree.VariableType.TheVariants.{Integer as Number, Pointer}
use Rattle.clmodel.specs.declared.type_fault.TypeFault.TheVariants as fault
use Rattle.clmodel.specs.Tree.{Term, Terms, NoTerm, ThenTerm}
use Rattle.clmodel.specs.Typing.Context.{Context, Signature, Meaning, Bound, Callable, Current, BuiltInFunction, Barrier, Unknown}
use Rattle.clmodel.specs.Typing.Least.{least}
use Rattle.clmodel.specs.Typing.Rules as rule
use Rattle.clmodel.specs.Typing.Rules.{is_constant, is_writable, is_atomic, operands, Calls, count}
use Rattle.clmodel.specs.Typing.Faults.{unless, start, integer_faults, Want, AnInteger, OfTypeBefore, AnAtomicPointer, atomic_wants, wants, Spot, is_statement, takes_helper, helper_faults, callee_faults, wanted, same_faults, atomic_faults, argument_faults, element_kind, call_kind, kind_of, first_kind, arguments_faults, inside_call, barrier_faults, call_faults}
use Rattle.cltypes.proofs.Splits.{none_split, none_joined, some_fault, unless_none, unless_true, three_none, three_true, and_true, and_left, and_right}
use Rattle.cltypes.proofs.Tables.{same_type_sound, same_type_complete}

-- the types of arguments
abbrev pub kinds_of : Context → Terms → List VariableType
kinds_of c NoTerm = []
kinds_of c (ThenTerm es e) = kinds_of c es ++ kind_of c e ∷ []

-- the type of a call's value, by the type of the first argument
abbrev pub given : BuiltIn → VariableType → VariableType
given f k = call_kind (BuiltInFunction f) k

-- how many arguments

no_terms : (es : Terms) → count es ≡ 0 → es ≡ NoTerm
no_terms NoTerm h = refl
no_terms (ThenTerm es e) h = absurd (omega (arith, h))

pub one_term : (es : Terms) → count es ≡ 1 → (e : Term) × (es ≡ ThenTerm NoTerm e)
one_term NoTerm h = absurd (omega (arith, h))
one_term (ThenTerm es e) h = (e, ap (λ ts. ThenTerm ts e) (no_terms es (omega (arith, h))))

record TwoTerms (es : Terms) : Type 0 where
  left : Term
  right : Term
  are : es ≡ ThenTerm (ThenTerm NoTerm left) right

two_terms : (es : Terms) → count es ≡ 2 → TwoTerms es
two_terms NoTerm h = absurd (omega (arith, h))
two_terms (ThenTerm es e) h = let r = one_term es (omega (arith, h)) in record { left = r.0; right = e; are = ap (λ ts. ThenTerm ts e) r.1 }

record ThreeTerms (es : Terms) : Type 0 where
  left : Term
  middle : Term
  right : Term
  are : es ≡ ThenTerm (ThenTerm (ThenTerm NoTerm left) middle) right

three_terms : (es : Terms) → count es ≡ 3 → ThreeTerms es
three_terms NoTerm h = absurd (omega (arith, h))
three_terms (ThenTerm es e) h =
    let r = two_terms es (omega (arith, h)) in
    record { left = r.left; middle = r.right; right = e; are = ap (λ ts. ThenTerm ts e) r.are }

counted_kinds : (c : Context) (es : Terms) → length (kinds_of c es) ≡ count es
counted_kinds c NoTerm = refl
counted_kinds c (ThenTerm es e) = length-append (kinds_of c es) (kind_of c e ∷ []) ∙ omega (arith, counted_kinds c es)

-- what a call without a fault of its own is

pub record IsBuiltIn (m : Meaning) (n : ℕ) : Type 0 where
  pub function : BuiltIn
  pub is : m ≡ BuiltInFunction function
  pub counted : n ≡ length (wants function)

pub record IsHelper (spot : Spot) (m : Meaning) (n : ℕ) : Type 0 where
  pub signature : Signature
  pub is : m ≡ Callable signature
  pub placed : takes_helper spot ≡ true
  pub is_helper : signature.is_kernel ≡ false
  pub counted : n ≡ length signature.parameters

pub record IsBarrier (spot : Spot) (m : Meaning) (n : ℕ) : Type 0 where
  pub is : m ≡ Barrier
  pub placed : is_statement spot ≡ true
  pub counted : n ≡ 1

pub data IsCallee (spot : Spot) (m : Meaning) (n : ℕ) : Type 0 where
  a_built_in : IsBuiltIn m n → IsCallee spot m n
  a_barrier : IsBarrier spot m n → IsCallee spot m n
  a_helper : IsHelper spot m n → IsCallee spot m n

count_test : (m n : ℕ) → m ≡ n → nat_eq m n ≡ true
count_test m n e = grind (arith, nat_tests)

helper_sound : (spot : Spot) (s : Signature) (a n : ℕ) → least (helper_faults spot s a n) ≡ None → IsHelper spot (Callable s) n
helper_sound spot s a n e =
    let r = none_split (unless (takes_helper spot && not s.is_kernel) (fault.TypeMismatch a)) (unless (nat_eq n (length s.parameters)) (fault.WrongArgumentCount a)) e in
    let t = unless_none (takes_helper spot && not s.is_kernel) (fault.TypeMismatch a) r.0 in
    record {
      signature = s;
      is = refl;
      placed = and_left (takes_helper spot) (not s.is_kernel) t;
      is_helper = not-true s.is_kernel (and_right (takes_helper spot) (not s.is_kernel) t);
      counted = eqb-true n (length s.parameters) (unless_none (nat_eq n (length s.parameters)) (fault.WrongArgumentCount a) r.1);
    }

pub callee_sound : (spot : Spot) (m : Meaning) (a n : ℕ) → least (callee_faults spot m a n) ≡ None → IsCallee spot m n
callee_sound spot (BuiltInFunction f) a n e =
    a_built_in (record {
      function = f;
      is = refl;
      counted = eqb-true n (length (wants f)) (unless_none (nat_eq n (length (wants f))) (fault.WrongArgumentCount a) e);
    })
callee_sound spot Barrier a n e =
    let r = none_split (unless (is_statement spot) (fault.TypeMismatch a)) (unless (nat_eq n 1) (fault.WrongArgumentCount a)) e in
    a_barrier (record {
      is = refl;
      placed = unless_none (is_statement spot) (fault.TypeMismatch a) r.0;
      counted = eqb-true n 1 (unless_none (nat_eq n 1) (fault.WrongArgumentCount a) r.1);
    })
callee_sound spot (Callable s) a n e = a_helper (helper_sound spot s a n e)
callee_sound spot (Current s) a n e = absurd (some_fault (fault.Recursion a) [] (none_split (helper_faults spot s a n) (fault.Recursion a ∷ []) e).1)
callee_sound spot (Bound k) a n e = absurd (some_fault (fault.TypeMismatch a) [] e)
callee_sound spot Unknown a n e = absurd (some_fault (fault.UnknownName a) [] e)

callee_complete : (spot : Spot) (f : BuiltIn) (a n : ℕ) → n ≡ length (wants f) → least (callee_faults spot (BuiltInFunction f) a n) ≡ None
callee_complete spot f a n h = unless_true (nat_eq n (length (wants f))) (fault.WrongArgumentCount a) (count_test n (length (wants f)) h)

pub helper_complete : (spot : Spot) (s : Signature) (a n : ℕ) → takes_helper spot ≡ true → s.is_kernel ≡ false → n ≡ length s.parameters → least (callee_faults spot (Callable s) a n) ≡ None
helper_complete spot s a n p k h =
    none_joined (unless (takes_helper spot && not s.is_kernel) (fault.TypeMismatch a)) (unless (nat_eq n (length s.parameters)) (fault.WrongArgumentCount a))
    (unless_true (takes_helper spot && not s.is_kernel) (fault.TypeMismatch a) (and_true (takes_helper spot) (not s.is_kernel) p (ap not k)))
    (unless_true (nat_eq n (length s.parameters)) (fault.WrongArgumentCount a) (count_test n (length s.parameters) h))

-- the pointer of an atomic function

record IsAtomicPointer (k : VariableType) : Type 0 where
  pointer : PointerType
  is : k ≡ Pointer pointer
  atomic : is_atomic pointer.element ≡ true
  writable : is_writable pointer ≡ true

atomic_sound : (k : VariableType) (a : ℕ) → least (atomic_faults k a) ≡ None → IsAtomicPointer k
atomic_sound (Number t) a e = absurd (some_fault (fault.TypeMismatch a) [] e)
atomic_sound (Pointer p) a e =
    let r = three_none (is_atomic p.element) (not p.is_const) (not (is_constant p.space)) (fault.TypeMismatch a) (fault.NotAssignable a) (fault.WrongSpace a) e in
    record { pointer = p; is = refl; atomic = r.0; writable = and_true (not p.is_const) (not (is_constant p.space)) r.1 r.2 }

atomic_complete : (p : PointerType) (a : ℕ) → is_atomic p.element ≡ true → is_writable p ≡ true → least (atomic_faults (Pointer p) a) ≡ None
atomic_complete p a e w =
    three_true (is_atomic p.element) (not p.is_const) (not (is_constant p.space)) (fault.TypeMismatch a) (fault.NotAssignable a) (fault.WrongSpace a)
    e (and_left (not p.is_const) (not (is_constant p.space)) w) (and_right (not p.is_const) (not (is_constant p.space)) w)

-- arguments without a fault are those of the rule

one_of : (f : BuiltIn) (g : VariableType → VariableType) → ((t : IntType) → Calls f (Number t ∷ []) (g (Number t)))
    → (k : VariableType) (a : ℕ) → least (integer_faults k a) ≡ None → Calls f (k ∷ []) (g k)
one_of f g h (Number t) a n = h t
one_of f g h (Pointer p) a n = absurd (some_fault (fault.TypeMismatch a) [] n)

two_of : (f : BuiltIn) → ((t : IntType) → Calls f (Number t ∷ Number t ∷ []) (Number t))
    → (j k : VariableType) (a b : ℕ) → least (integer_faults j a ++ same_faults j k b) ≡ None → Calls f (j ∷ k ∷ []) j
two_of f h (Number t) (Number u) a b n =
    subst (λ v. Calls f (Number t ∷ Number v ∷ []) (Number t)) (same_type_sound t u (unless_none (is_same t u) (fault.TypeMismatch b) n)) (h t)
two_of f h (Number t) (Pointer q) a b n = absurd (some_fault (fault.TypeMismatch b) [] n)
two_of f h (Pointer p) k a b n = absurd (some_fault (fault.TypeMismatch a) (same_faults (Pointer p) k b) n)

alone_of : (f : AtomicFunction) → operands f ≡ 0 → (k : VariableType) (a : ℕ) → least (atomic_faults k a) ≡ None → Calls (built_in.Atomic f) (k ∷ []) (element_kind k)
alone_of f h k a n =
    let p = atomic_sound k a n in
    subst (λ v. Calls (built_in.Atomic f) (v ∷ []) (element_kind v)) (sym p.is) (rule.atomic_alone h p.atomic p.writable)

with_one_of : (f : AtomicFunction) → operands f ≡ 1 → (j k : VariableType) (a b : ℕ) → least (atomic_faults j a ++ integer_faults k b) ≡ None
    → Calls (built_in.Atomic f) (j ∷ k ∷ []) (element_kind j)
with_one_of f h j (Number t) a b n =
    let p = atomic_sound j a (none_split (atomic_faults j a) [] n).0 in
    subst (λ v. Calls (built_in.Atomic f) (v ∷ Number t ∷ []) (element_kind v)) (sym p.is) (rule.atomic h p.atomic p.writable)
with_one_of f h j (Pointer q) a b n = absurd (some_fault (fault.TypeMismatch b) [] (none_split (atomic_faults j a) (fault.TypeMismatch b ∷ []) n).1)

with_two_of : (f : AtomicFunction) → operands f ≡ 2 → (i j k : VariableType) (a b d : ℕ) → least (atomic_faults i a ++ integer_faults j b ++ integer_faults k d) ≡ None
    → Calls (built_in.Atomic f) (i ∷ j ∷ k ∷ []) (element_kind i)
with_two_of f h i (Number t) (Number u) a b d n =
    let p = atomic_sound i a (none_split (atomic_faults i a) [] (none_split (atomic_faults i a ++ []) [] n).0).0 in
    subst (λ v. Calls (built_in.Atomic f) (v ∷ Number t ∷ Number u ∷ []) (element_kind v)) (sym p.is) (rule.atomic_pair h p.atomic p.writable)
with_two_of f h i (Pointer q) k a b d n =
    absurd (some_fault (fault.TypeMismatch b) [] (none_split (atomic_faults i a) (fault.TypeMismatch b ∷ []) (none_split (atomic_faults i a ++ fault.TypeMismatch b ∷ []) (integer_faults k d) n).0).1)
with_two_of f h i (Number t) (Pointer q) a b d n =
    absurd (some_fault (fault.TypeMismatch d) [] (none_split (atomic_faults i a ++ []) (fault.TypeMismatch d ∷ []) n).1)

one_sound : (c : Context) (f : BuiltIn) (es : Terms) (w : Want) → count es ≡ 1 → least (arguments_faults c (w ∷ []) es) ≡ None
    → ((k : VariableType) (a : ℕ) → least (argument_faults (Some w) (Number Int) k a) ≡ None → Calls f (k ∷ []) (given f k)) → Calls f (kinds_of c es) (given f (first_kind c es))
one_sound c f es w h n g =
    let r = one_term es h in
    subst (λ ts. Calls f (kinds_of c ts) (given f (first_kind c ts))) (sym r.1)
    (g (kind_of c r.0) (start r.0) (subst (λ ts. least (arguments_faults c (w ∷ []) ts) ≡ None) r.1 n))

two_sound : (c : Context) (f : BuiltIn) (es : Terms) (v w : Want) → count es ≡ 2 → least (arguments_faults c (v ∷ w ∷ []) es) ≡ None
    → ((j k : VariableType) (a b : ℕ) → least (argument_faults (Some v) (Number Int) j a ++ argument_faults (Some w) j k b) ≡ None → Calls f (j ∷ k ∷ []) (given f j))
    → Calls f (kinds_of c es) (given f (first_kind c es))
two_sound c f es v w h n g =
    let r = two_terms es h in
    subst (λ ts. Calls f (kinds_of c ts) (given f (first_kind c ts))) (sym r.are)
    (g (kind_of c r.left) (kind_of c r.right) (start r.left) (start r.right) (subst (λ ts. least (arguments_faults c (v ∷ w ∷ []) ts) ≡ None) r.are n))

three_sound : (c : Context) (f : BuiltIn) (es : Terms) (u v w : Want) → count es ≡ 3 → least (arguments_faults c (u ∷ v ∷ w ∷ []) es) ≡ None
    → ((i j k : VariableType) (a b d : ℕ) → least (argument_faults (Some u) (Number Int) i a ++ argument_faults (Some v) i j b ++ argument_faults (Some w) j k d) ≡ None
    → Calls f (i ∷ j ∷ k ∷ []) (given f i))
    → Calls f (kinds_of c es) (given f (first_kind c es))
three_sound c f es u v w h n g =
    let r = three_terms es h in
    subst (λ ts. Calls f (kinds_of c ts) (given f (first_kind c ts))) (sym r.are)
    (g (kind_of c r.left) (kind_of c r.middle) (kind_of c r.right) (start r.left) (start r.middle) (start r.right)
    (subst (λ ts. least (arguments_faults c (u ∷ v ∷ w ∷ []) ts) ≡ None) r.are n))

-- how many operands an atomic function has
data Operands (n : ℕ) : Type 0 where
  none : n ≡ 0 → Operands n
  one : n ≡ 1 → Operands n
  two : n ≡ 2 → Operands n

operands_of : (f : AtomicFunction) → Operands (operands f)
operands_of atomic.Add = one refl
operands_of atomic.Sub = one refl
operands_of atomic.Min = one refl
operands_of atomic.Max = one refl
operands_of atomic.And = one refl
operands_of atomic.Or = one refl
operands_of atomic.Xor = one refl
operands_of atomic.Inc = none refl
operands_of atomic.Dec = none refl
operands_of atomic.Exchange = one refl
operands_of atomic.CompareExchange = two refl

atomic_calls : (c : Context) (f : AtomicFunction) (es : Terms) (n : ℕ) → n ≡ operands f → Operands n → count es ≡ length (atomic_wants n)
    → least (arguments_faults c (atomic_wants n) es) ≡ None → Calls (built_in.Atomic f) (kinds_of c es) (given (built_in.Atomic f) (first_kind c es))
atomic_calls c f es n h (none e) m l =
    one_sound c (built_in.Atomic f) es AnAtomicPointer (m ∙ ap (λ n. length (atomic_wants n)) e) (subst (λ n. least (arguments_faults c (atomic_wants n) es) ≡ None) e l)
    (alone_of f (sym h ∙ e))
atomic_calls c f es n h (one e) m l =
    two_sound c (built_in.Atomic f) es AnAtomicPointer AnInteger (m ∙ ap (λ n. length (atomic_wants n)) e) (subst (λ n. least (arguments_faults c (atomic_wants n) es) ≡ None) e l)
    (with_one_of f (sym h ∙ e))
atomic_calls c f es n h (two e) m l =
    three_sound c (built_in.Atomic f) es AnAtomicPointer AnInteger AnInteger (m ∙ ap (λ n. length (atomic_wants n)) e) (subst (λ n. least (arguments_faults c (atomic_wants n) es) ≡ None) e l)
    (with_two_of f (sym h ∙ e))

pub calls_sound : (c : Context) (f : BuiltIn) (es : Terms) → count es ≡ length (wants f) → least (arguments_faults c (wants f) es) ≡ None
    → Calls f (kinds_of c es) (given f (first_kind c es))
calls_sound c built_in.WorkDim es m n = subst (λ ts. Calls built_in.WorkDim (kinds_of c ts) (Number Uint)) (sym (no_terms es m)) rule.work_dim
calls_sound c (built_in.WorkItem f) es m n = one_sound c (built_in.WorkItem f) es AnInteger m n (one_of (built_in.WorkItem f) (given (built_in.WorkItem f)) (λ t. rule.work_item))
calls_sound c (built_in.Integer integer.Min) es m n = two_sound c (built_in.Integer integer.Min) es AnInteger OfTypeBefore m n (two_of (built_in.Integer integer.Min) (λ t. rule.min))
calls_sound c (built_in.Integer integer.Max) es m n = two_sound c (built_in.Integer integer.Max) es AnInteger OfTypeBefore m n (two_of (built_in.Integer integer.Max) (λ t. rule.max))
calls_sound c (built_in.Integer integer.Rotate) es m n = two_sound c (built_in.Integer integer.Rotate) es AnInteger OfTypeBefore m n (two_of (built_in.Integer integer.Rotate) (λ t. rule.rotate))
calls_sound c (built_in.Integer integer.Abs) es m n = one_sound c (built_in.Integer integer.Abs) es AnInteger m n (one_of (built_in.Integer integer.Abs) (given (built_in.Integer integer.Abs)) (λ t. rule.abs))
calls_sound c (built_in.Integer integer.Clz) es m n = one_sound c (built_in.Integer integer.Clz) es AnInteger m n (one_of (built_in.Integer integer.Clz) (given (built_in.Integer integer.Clz)) (λ t. rule.clz))
calls_sound c (built_in.Integer integer.Popcount) es m n =
    one_sound c (built_in.Integer integer.Popcount) es AnInteger m n (one_of (built_in.Integer integer.Popcount) (given (built_in.Integer integer.Popcount)) (λ t. rule.popcount))
calls_sound c (built_in.Atomic f) es m n = atomic_calls c f es (operands f) refl (operands_of f) m n

-- arguments of the rule have no fault

-- a call's arguments as they are wanted, and what it gives
pub record IsCalled (c : Context) (f : BuiltIn) (es : Terms) (r : VariableType) : Type 0 where
  pub counted : count es ≡ length (wants f)
  pub faultless : least (arguments_faults c (wants f) es) ≡ None
  pub gives : given f (first_kind c es) ≡ r

one_head : (a x : VariableType) → a ∷ [] ≡ x ∷ [] → a ≡ x
one_head a x e = cc

two_heads : (a b x y : VariableType) → a ∷ b ∷ [] ≡ x ∷ y ∷ [] → (a ≡ x) × (b ≡ y)
two_heads a b x y e = (cc, cc)

three_heads : (a b d x y z : VariableType) → a ∷ b ∷ d ∷ [] ≡ x ∷ y ∷ z ∷ [] → (a ≡ x) × (b ≡ y) × (d ≡ z)
three_heads a b d x y z e = (cc, cc, cc)

counted_as : (c : Context) (es : Terms) (ks : List VariableType) → kinds_of c es ≡ ks → count es ≡ length ks
counted_as c es ks e = sym (counted_kinds c es) ∙ ap length e

one_called : (c : Context) (f : BuiltIn) (es : Terms) (w : Want) (k : VariableType) → wants f ≡ w ∷ [] → kinds_of c es ≡ k ∷ []
    → ((a : ℕ) → least (argument_faults (Some w) (Number Int) k a) ≡ None) → IsCalled c f es (given f k)
one_called c f es w k e h g =
    let n : count es ≡ 1 = counted_as c es (k ∷ []) h in
    let r = one_term es n in
    let s = one_head (kind_of c r.0) k (ap (kinds_of c) (sym r.1) ∙ h) in
    record {
      counted = n ∙ ap length (sym e);
      faultless = subst (λ ws. least (arguments_faults c ws es) ≡ None) (sym e)
          (subst (λ ts. least (arguments_faults c (w ∷ []) ts) ≡ None) (sym r.1)
          (subst (λ v. least (argument_faults (Some w) (Number Int) v (start r.0)) ≡ None) (sym s) (g (start r.0))));
      gives = ap (λ ts. given f (first_kind c ts)) r.1 ∙ ap (given f) s;
    }

two_called : (c : Context) (f : BuiltIn) (es : Terms) (v w : Want) (j k : VariableType) → wants f ≡ v ∷ w ∷ [] → kinds_of c es ≡ j ∷ k ∷ []
    → ((a b : ℕ) → least (argument_faults (Some v) (Number Int) j a ++ argument_faults (Some w) j k b) ≡ None) → IsCalled c f es (given f j)
two_called c f es v w j k e h g =
    let n : count es ≡ 2 = counted_as c es (j ∷ k ∷ []) h in
    let r = two_terms es n in
    let s = two_heads (kind_of c r.left) (kind_of c r.right) j k (ap (kinds_of c) (sym r.are) ∙ h) in
    record {
      counted = n ∙ ap length (sym e);
      faultless = subst (λ ws. least (arguments_faults c ws es) ≡ None) (sym e)
          (subst (λ ts. least (arguments_faults c (v ∷ w ∷ []) ts) ≡ None) (sym r.are)
          (subst (λ y. least (argument_faults (Some v) (Number Int) y (start r.left) ++ argument_faults (Some w) y (kind_of c r.right) (start r.right)) ≡ None) (sym s.0)
          (subst (λ y. least (argument_faults (Some v) (Number Int) j (start r.left) ++ argument_faults (Some w) j y (start r.right)) ≡ None) (sym s.1) (g (start r.left) (start r.right)))));
      gives = ap (λ ts. given f (first_kind c ts)) r.are ∙ ap (given f) s.0;
    }

three_called : (c : Context) (f : BuiltIn) (es : Terms) (u v w : Want) (i j k : VariableType) → wants f ≡ u ∷ v ∷ w ∷ [] → kinds_of c es ≡ i ∷ j ∷ k ∷ []
    → ((a b d : ℕ) → least (argument_faults (Some u) (Number Int) i a ++ argument_faults (Some v) i j b ++ argument_faults (Some w) j k d) ≡ None) → IsCalled c f es (given f i)
three_called c f es u v w i j k e h g =
    let n : count es ≡ 3 = counted_as c es (i ∷ j ∷ k ∷ []) h in
    let r = three_terms es n in
    let s = three_heads (kind_of c r.left) (kind_of c r.middle) (kind_of c r.right) i j k (ap (kinds_of c) (sym r.are) ∙ h) in
    record {
      counted = n ∙ ap length (sym e);
      faultless = subst (λ ws. least (arguments_faults c ws es) ≡ None) (sym e)
          (subst (λ ts. least (arguments_faults c (u ∷ v ∷ w ∷ []) ts) ≡ None) (sym r.are)
          (subst
          (λ y. least (argument_faults (Some u) (Number Int) y (start r.left) ++ argument_faults (Some v) y (kind_of c r.middle) (start r.middle)
          ++ argument_faults (Some w) (kind_of c r.middle) (kind_of c r.right) (start r.right)) ≡ None)
          (sym s.0)
          (subst
          (λ y. least (argument_faults (Some u) (Number Int) i (start r.left) ++ argument_faults (Some v) i y (start r.middle)
          ++ argument_faults (Some w) y (kind_of c r.right) (start r.right)) ≡ None)
          (sym s.1)
          (subst
          (λ y. least (argument_faults (Some u) (Number Int) i (start r.left) ++ argument_faults (Some v) i j (start r.middle)
          ++ argument_faults (Some w) j y (start r.right)) ≡ None)
          (sym s.2) (g (start r.left) (start r.middle) (start r.right))))));
      gives = ap (λ ts. given f (first_kind c ts)) r.are ∙ ap (given f) s.0;
    }

same_two : (t : IntType) (a b : ℕ) → least (integer_faults (Number t) a ++ same_faults (Number t) (Number t) b) ≡ None
same_two t a b = unless_true (is_same t t) (fault.TypeMismatch b) (same_type_complete t t refl)

atomic_two : (p : PointerType) (t : IntType) → is_atomic p.element ≡ true → is_writable p ≡ true → (a b : ℕ) → least (atomic_faults (Pointer p) a ++ integer_faults (Number t) b) ≡ None
atomic_two p t e w a b = none_joined (atomic_faults (Pointer p) a) [] (atomic_complete p a e w) refl

atomic_three : (p : PointerType) (t u : IntType) → is_atomic p.element ≡ true → is_writable p ≡ true
    → (a b d : ℕ) → least (atomic_faults (Pointer p) a ++ integer_faults (Number t) b ++ integer_faults (Number u) d) ≡ None
atomic_three p t u e w a b d = none_joined (atomic_faults (Pointer p) a ++ []) [] (atomic_two p t e w a b) refl

pub calls_complete : (c : Context) (f : BuiltIn) (es : Terms) (ks : List VariableType) (r : VariableType) → Calls f ks r → kinds_of c es ≡ ks → IsCalled c f es r
calls_complete c _ es _ _ rule.work_dim h =
    let e = no_terms es (counted_as c es [] h) in
    record { counted = counted_as c es [] h; faultless = subst (λ ts. least (arguments_faults c [] ts) ≡ None) (sym e) refl; gives = refl }
calls_complete c _ es _ _ (rule.work_item {f = f} {t = t}) h = one_called c (built_in.WorkItem f) es AnInteger (Number t) refl h (λ a. refl)
calls_complete c _ es _ _ (rule.min {t = t}) h = two_called c (built_in.Integer integer.Min) es AnInteger OfTypeBefore (Number t) (Number t) refl h (same_two t)
calls_complete c _ es _ _ (rule.max {t = t}) h = two_called c (built_in.Integer integer.Max) es AnInteger OfTypeBefore (Number t) (Number t) refl h (same_two t)
calls_complete c _ es _ _ (rule.rotate {t = t}) h = two_called c (built_in.Integer integer.Rotate) es AnInteger OfTypeBefore (Number t) (Number t) refl h (same_two t)
calls_complete c _ es _ _ (rule.abs {t = t}) h = one_called c (built_in.Integer integer.Abs) es AnInteger (Number t) refl h (λ a. refl)
calls_complete c _ es _ _ (rule.clz {t = t}) h = one_called c (built_in.Integer integer.Clz) es AnInteger (Number t) refl h (λ a. refl)
calls_complete c _ es _ _ (rule.popcount {t = t}) h = one_called c (built_in.Integer integer.Popcount) es AnInteger (Number t) refl h (λ a. refl)
calls_complete c _ es _ _ (rule.atomic {f = f} {p = p} {t = t} b e w) h =
    two_called c (built_in.Atomic f) es AnAtomicPointer AnInteger (Pointer p) (Number t) (ap atomic_wants b) h (atomic_two p t e w)
calls_complete c _ es _ _ (rule.atomic_alone {f = f} {p = p} b e w) h =
    one_called c (built_in.Atomic f) es AnAtomicPointer (Pointer p) (ap atomic_wants b) h (λ a. atomic_complete p a e w)
calls_complete c _ es _ _ (rule.atomic_pair {f = f} {p = p} {t = t} {u = u} b e w) h =
    three_called c (built_in.Atomic f) es AnAtomicPointer AnInteger AnInteger (Pointer p) (Number t) (Number u) (ap atomic_wants b) h (atomic_three p t u e w)

-- the own faults of a call

pub record IsFaultless (c : Context) (spot : Spot) (m : Meaning) (a : ℕ) (es : Terms) : Type 0 where
  pub callee : IsCallee spot m (count es)
  pub arguments : least (arguments_faults (inside_call m c) (wanted m) es) ≡ None
  pub flags : least (barrier_faults m es) ≡ None

pub own_sound : (c : Context) (spot : Spot) (m : Meaning) (a : ℕ) (es : Terms) → least (call_faults c spot m a es) ≡ None → IsFaultless c spot m a es
own_sound c spot m a es n =
    let callee = callee_faults spot m a (count es) in
    let arguments = arguments_faults (inside_call m c) (wanted m) es in
    let r = none_split (callee ++ arguments) (barrier_faults m es) n in
    let s = none_split callee arguments r.0 in
    record { callee = callee_sound spot m a (count es) s.0; arguments = s.1; flags = r.1 }

pub own_complete : (c : Context) (spot : Spot) (f : BuiltIn) (a : ℕ) (es : Terms) (r : VariableType) → IsCalled c f es r → least (call_faults c spot (BuiltInFunction f) a es) ≡ None
own_complete c spot f a es r h =
    none_joined (callee_faults spot (BuiltInFunction f) a (count es) ++ arguments_faults c (wants f) es) []
    (none_joined (callee_faults spot (BuiltInFunction f) a (count es)) (arguments_faults c (wants f) es) (callee_complete spot f a (count es) h.counted) h.faultless) refl
