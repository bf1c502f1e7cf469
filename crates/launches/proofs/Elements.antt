-- What is put into an element of a private array is what is read there, converted; the other elements and the other
-- variables stay.
use Rattle.std.proofs.Common.{◌≡◌, ◌≢◌, ℕ, zero, suc, ◌^◌, ◌<◌, ◌≤◌, ◌==◌, ℤ, pos, negsuc, ◌≤ℤ◌, ◌<ℤ◌, ◌⊎◌, inl, inr, Bool, true, false, nat_lt, Option, None, Some, List, [], ◌∷◌, length, replicate, slice_get, slice_set, refl, sym, ap, ◌∙◌, arith, lit<, lt-ltb, eqb-true, ne_eqb}
use mathlib.Core.Path.{fun_ext}
use Rattle.std.proofs.Math.Nat.{mod-eq_of_lt}
use Rattle.std.proofs.lemmas.Bool.Decides.{nat_tests}
use Rattle.std.proofs.lemmas.Int.{ints}
use Rattle.std.proofs.lemmas.Option.{slice_get_past}
use Rattle.clnum.specs.Integer.{Integer, bits, read_as, bits_of, wrap, converted}
use Rattle.clnum.specs.Operations.{wrapped}
use Rattle.clnum.specs.declared.int_type.IntType.{IntType}
use Rattle.clnum.specs.declared.int_type.IntType.TheVariants.{Char, Uchar, Short, Ushort, Int, Uint, Long, Ulong}
use Rattle.clnum.proofs.Residues.{residue-below}
use Rattle.clmodel.specs.Next.{Continuation, fail, Binding, Variables, look, declared_type, elements_of, with_elements, base_type, fetch, put, element_at, element_value, element_set, read_element, write_element, index_of}
use Rattle.clmodel.specs.Next.Expressions.{ElementOf}
use Rattle.clmodel.specs.declared.action.Cause.TheVariants as cause
use Rattle.clmodel.specs.declared.operand.Operand.{Operand}
use Rattle.clmodel.specs.declared.tree.VariableType.{VariableType}
use Rattle.clmodel.specs.declared.operand.Operand.TheVariants.{Integral}
use Rattle.clmodel.proofs.Steps.{if_true, if_false}

positive : (kind : IntType) → 0 < 2 ^ bits kind
positive Char = lit< tt
positive Uchar = lit< tt
positive Short = lit< tt
positive Ushort = lit< tt
positive Int = lit< tt
positive Uint = lit< tt
positive Long = lit< tt
positive Ulong = lit< tt

-- the low bits of a number, read as a number of the type, are the number converted
pub low_bits_read : (kind : IntType) (v : Integer) → wrapped kind (pos (bits_of kind v.number)) ≡ converted v kind
unfolding wrap bits_of converted
low_bits_read kind v =
    ap (λ n. record { kind = kind; number = read_as kind n }) (mod-eq_of_lt (residue-below (2 ^ bits kind) v.number (positive kind)))

-- ---- elements of a list

set_there : {X : Type 0} (xs : List X) (i : ℕ) (x : X) → i < length xs → slice_get (slice_set xs i x) i ≡ Some x
set_there [] i x h = absurd (omega arith)
set_there (y ∷ xs) zero x h = refl
set_there (y ∷ xs) (suc i) x h = set_there xs i x (omega arith)

set_elsewhere : {X : Type 0} (xs : List X) (i : ℕ) (x : X) (j : ℕ) → i ≢ j → slice_get (slice_set xs i x) j ≡ slice_get xs j
set_elsewhere [] i x j h = refl
set_elsewhere (y ∷ xs) zero x zero h = absurd (h refl)
set_elsewhere (y ∷ xs) zero x (suc j) h = refl
set_elsewhere (y ∷ xs) (suc i) x zero h = refl
set_elsewhere (y ∷ xs) (suc i) x (suc j) h = set_elsewhere xs i x j (λ e. h (ap suc e))

set_length : {X : Type 0} (xs : List X) (i : ℕ) (x : X) → length (slice_set xs i x) ≡ length xs
set_length [] i x = refl
set_length (y ∷ xs) zero x = refl
set_length (y ∷ xs) (suc i) x = ap suc (set_length xs i x)

replicated : {X : Type 0} (count i : ℕ) (x : X) → i < count → slice_get (replicate count x) i ≡ Some x
replicated zero i x h = absurd (omega arith)
replicated (suc count) zero x h = refl
replicated (suc count) (suc i) x h = replicated count i x (omega arith)

-- ---- by an offset

module _ (name : ℕ) (kind : IntType) (elements : List (Option ℕ)) where
  -- what goes on behind a number that is put at an index in range
  set_at : (n : ℕ) (v : Integer) (after : List (Option ℕ) → Continuation) → n < length elements
      → element_set name (pos n) kind elements v after ≡ after (slice_set elements n (Some (bits_of kind v.number)))
  set_at n v after h = if_true (nat_lt n (length elements)) _ _ (lt-ltb n (length elements) h)

  set_read : (z : ℤ) (v : Integer) (after : Operand → Continuation) → pos 0 ≤ℤ z → z <ℤ pos (length elements)
      → element_set name z kind elements v (λ new. element_value name z kind (element_at new z) after) ≡ after (Integral (converted v kind))
  set_read (pos n) v after from below =
      let h : n < length elements = omega (arith, ints) in
      set_at n v (λ new. element_value name (pos n) kind (element_at new (pos n)) after) h
      ∙ ap (λ o. element_value name (pos n) kind o after) (set_there elements n (Some (bits_of kind v.number)) h)
      ∙ ap (λ w. after (Integral w)) (low_bits_read kind v)
  set_read (negsuc n) v after from below = absurd (omega (arith, ints))

  set_kept : (z : ℤ) (v : Integer) (y : ℤ) (after : Operand → Continuation) → pos 0 ≤ℤ z → z <ℤ pos (length elements) → z ≢ y
      → element_set name z kind elements v (λ new. element_value name y kind (element_at new y) after) ≡ element_value name y kind (element_at elements y) after
  set_kept (pos n) v (pos m) after from below apart =
      set_at n v (λ new. element_value name (pos m) kind (element_at new (pos m)) after) (omega (arith, ints))
      ∙ ap (λ o. element_value name (pos m) kind o after) (set_elsewhere elements n (Some (bits_of kind v.number)) m (λ e. apart (ap (λ k. pos k) e)))
  set_kept (pos n) v (negsuc m) after from below apart =
      set_at n v (λ new. element_value name (negsuc m) kind (element_at new (negsuc m)) after) (omega (arith, ints))
  set_kept (negsuc n) v y after from below apart = absurd (omega (arith, ints))

  set_count : (z : ℤ) (v : Integer) (after : ℕ → Continuation) → pos 0 ≤ℤ z → z <ℤ pos (length elements)
      → element_set name z kind elements v (λ new. after (length new)) ≡ after (length elements)
  set_count (pos n) v after from below =
      set_at n v (λ new. after (length new)) (omega (arith, ints)) ∙ ap after (set_length elements n (Some (bits_of kind v.number)))
  set_count (negsuc n) v after from below = absurd (omega (arith, ints))

  set_outside : (z : ℤ) (v : Integer) (after : List (Option ℕ) → Continuation) → (z <ℤ pos 0) ⊎ (pos (length elements) ≤ℤ z)
      → element_set name z kind elements v after ≡ fail (cause.PrivateBounds name z)
  set_outside (pos n) v after (inl below) = absurd (omega (arith, ints))
  set_outside (pos n) v after (inr past) = if_false (nat_lt n (length elements)) _ _ (not_below (omega (arith, ints)))
    where
      not_below : length elements ≤ n → nat_lt n (length elements) ≡ false
      not_below h = grind (arith, nat_tests)
  set_outside (negsuc n) v after h = refl

  value_outside : (z : ℤ) (after : Operand → Continuation) → (z <ℤ pos 0) ⊎ (pos (length elements) ≤ℤ z)
      → element_value name z kind (element_at elements z) after ≡ fail (cause.PrivateBounds name z)
  value_outside (pos n) after (inl below) = absurd (omega (arith, ints))
  value_outside (pos n) after (inr past) = ap (λ o. element_value name (pos n) kind o after) (slice_get_past elements n (omega (arith, ints)))
  value_outside (negsuc n) after h = refl

-- ---- the laws

pub put_is_read :
    (name : ℕ) (kind : IntType) (elements : List (Option ℕ)) (i v : Integer) (after : Operand → Continuation) → pos 0 ≤ℤ index_of i → index_of i <ℤ pos (length elements)
    → write_element name kind elements (Integral i) (Integral v) (λ new. read_element name kind new (Integral i) after) ≡ after (Integral (converted v kind))
put_is_read name kind elements i v after from below = set_read name kind elements (index_of i) v after from below

pub others_stay :
    (name : ℕ) (kind : IntType) (elements : List (Option ℕ)) (i v j : Integer) (after : Operand → Continuation) → pos 0 ≤ℤ index_of i → index_of i <ℤ pos (length elements)
    → index_of i ≢ index_of j
    → write_element name kind elements (Integral i) (Integral v) (λ new. read_element name kind new (Integral j) after)
    ≡ read_element name kind elements (Integral j) after
others_stay name kind elements i v j after from below apart = set_kept name kind elements (index_of i) v (index_of j) after from below apart

pub length_stays :
    (name : ℕ) (kind : IntType) (elements : List (Option ℕ)) (i v : Integer) (after : ℕ → Continuation) → pos 0 ≤ℤ index_of i → index_of i <ℤ pos (length elements)
    → write_element name kind elements (Integral i) (Integral v) (λ new. after (length new)) ≡ after (length elements)
length_stays name kind elements i v after from below = set_count name kind elements (index_of i) v after from below

pub put_outside :
    (name : ℕ) (kind : IntType) (elements : List (Option ℕ)) (i v : Integer) (after : List (Option ℕ) → Continuation)
    → (index_of i <ℤ pos 0) ⊎ (pos (length elements) ≤ℤ index_of i)
    → write_element name kind elements (Integral i) (Integral v) after ≡ fail (cause.PrivateBounds name (index_of i))
put_outside name kind elements i v after outside = set_outside name kind elements (index_of i) v after outside

pub read_outside :
    (name : ℕ) (kind : IntType) (elements : List (Option ℕ)) (i : Integer) (after : Operand → Continuation)
    → (index_of i <ℤ pos 0) ⊎ (pos (length elements) ≤ℤ index_of i)
    → read_element name kind elements (Integral i) after ≡ fail (cause.PrivateBounds name (index_of i))
read_outside name kind elements i after outside = value_outside name kind elements (index_of i) after outside

pub read_unset :
    (name : ℕ) (kind : IntType) (elements : List (Option ℕ)) (i : Integer) (after : Operand → Continuation) → element_at elements (index_of i) ≡ Some None
    → read_element name kind elements (Integral i) after ≡ fail (cause.UnsetElement name (index_of i))
read_unset name kind elements i after is_unset = ap (λ o. element_value name (index_of i) kind o after) is_unset

unset_at : (count : ℕ) (z : ℤ) → pos 0 ≤ℤ z → z <ℤ pos count → element_at (replicate count None) z ≡ Some None
unset_at count (pos n) from below = replicated count n None (omega (arith, ints))
unset_at count (negsuc n) from below = absurd (omega (arith, ints))

pub unset_at_first :
    (name : ℕ) (kind : IntType) (count : ℕ) (i : Integer) (after : Operand → Continuation) → pos 0 ≤ℤ index_of i → index_of i <ℤ pos count
    → read_element name kind (replicate count None) (Integral i) after ≡ fail (cause.UnsetElement name (index_of i))
unset_at_first name kind count i after from below = read_unset name kind (replicate count None) i after (unset_at count (index_of i) from below)

-- ---- arrays in scope

module _ (name : ℕ) (new : List (Option ℕ)) where
  -- the innermost of these variables, where it is the array and where it isn't
  abbrev changed : Bool → Binding → Variables → Variables
  changed b variable variables = elim b [ true ↦ record variable { elements = new } ∷ variables | false ↦ variable ∷ with_elements variables name new ]

  look_stays : (variables : Variables) (x : ℕ) → look (with_elements variables name new) x ≡ look variables x
  look_stays [] x = refl
  look_stays (variable ∷ variables) x = go (name == variable.name) (look_stays variables x)
    where
      go : (b : Bool) → look (with_elements variables name new) x ≡ look variables x → look (changed b variable variables) x ≡ look (variable ∷ variables) x
      go true h = refl
      go false h = ap (λ o. elim (x == variable.name) as (λ _. Option Operand) [ true ↦ variable.content | false ↦ o ]) h

  type_stays : (variables : Variables) (x : ℕ) → declared_type (with_elements variables name new) x ≡ declared_type variables x
  type_stays [] x = refl
  type_stays (variable ∷ variables) x = go (name == variable.name) (type_stays variables x)
    where
      go : (b : Bool) → declared_type (with_elements variables name new) x ≡ declared_type variables x
          → declared_type (changed b variable variables) x ≡ declared_type (variable ∷ variables) x
      go true h = refl
      go false h = ap (λ k. elim (x == variable.name) as (λ _. VariableType) [ true ↦ variable.kind | false ↦ k ]) h

  array_stays : (variables : Variables) (x : ℕ) → x ≢ name → elements_of (with_elements variables name new) x ≡ elements_of variables x
  array_stays [] x apart = refl
  array_stays (variable ∷ variables) x apart = go (name == variable.name) refl (array_stays variables x apart)
    where
      go : (b : Bool) → (name == variable.name) ≡ b → elements_of (with_elements variables name new) x ≡ elements_of variables x
          → elements_of (changed b variable variables) x ≡ elements_of (variable ∷ variables) x
      go true e h =
          let other : (x == variable.name) ≡ false = ne_eqb x variable.name (λ p. apart (p ∙ sym (eqb-true name variable.name e))) in
          ap (λ b. elim b as (λ _. List (Option ℕ)) [ true ↦ new | false ↦ elements_of variables x ]) other
          ∙ sym (ap (λ b. elim b as (λ _. List (Option ℕ)) [ true ↦ variable.elements | false ↦ elements_of variables x ]) other)
      go false e h = ap (λ o. elim (x == variable.name) as (λ _. List (Option ℕ)) [ true ↦ variable.elements | false ↦ o ]) h

  array_there : (variables : Variables) → 0 < length (elements_of variables name) → elements_of (with_elements variables name new) name ≡ new
  array_there [] some = absurd (omega arith)
  array_there (variable ∷ variables) some = go (name == variable.name) refl some (λ k. array_there variables k)
    where
      go : (b : Bool) → (name == variable.name) ≡ b
          → 0 < length (elim b as (λ _. List (Option ℕ)) [ true ↦ variable.elements | false ↦ elements_of variables name ])
          → (0 < length (elements_of variables name) → elements_of (with_elements variables name new) name ≡ new)
          → elements_of (changed b variable variables) name ≡ new
      go true e k h = ap (λ b. elim b as (λ _. List (Option ℕ)) [ true ↦ new | false ↦ elements_of variables name ]) e
      go false e k h =
          ap (λ b. elim b as (λ _. List (Option ℕ)) [ true ↦ variable.elements | false ↦ elements_of (with_elements variables name new) name ]) e ∙ h k

some_element : (count : ℕ) (z : ℤ) → pos 0 ≤ℤ z → z <ℤ pos count → 0 < count
some_element count (pos n) from below = omega (arith, ints)
some_element count (negsuc n) from below = absurd (omega (arith, ints))

-- how an element of the array is read once the array has other elements
read_new : (name : ℕ) (variables : Variables) (j : Integer) (after : Operand → Continuation) → 0 < length (elements_of variables name)
    → ◌≡◌ {A = List (Option ℕ) → Continuation} (λ new. fetch (ElementOf name (Integral j)) (with_elements variables name new) after)
    (λ new. read_element name (base_type (declared_type variables name)) new (Integral j) after)
read_new name variables j after some =
    fun_ext (λ new.
    ap (λ k. read_element name (base_type k) (elements_of (with_elements variables name new) name) (Integral j) after) (type_stays name new variables name)
    ∙ ap (λ es. read_element name (base_type (declared_type variables name)) es (Integral j) after) (array_there name new variables some))

module _ (name : ℕ) (variables : Variables) (i v : Integer) (from : pos 0 ≤ℤ index_of i) (below : index_of i <ℤ pos (length (elements_of variables name))) where
  abbrev kind : IntType
  kind = base_type (declared_type variables name)

  abbrev own : List (Option ℕ)
  own = elements_of variables name

  pub put_is_fetched : (after : Operand → Continuation)
      → put (ElementOf name (Integral i)) (Integral v) variables (λ now. fetch (ElementOf name (Integral i)) now after)
      ≡ after (Integral (converted v (base_type (declared_type variables name))))
  put_is_fetched after =
      ap (write_element name kind own (Integral i) (Integral v)) (read_new name variables i after (some_element (length own) (index_of i) from below))
      ∙ put_is_read name kind own i v after from below

  pub others_are_fetched : (j : Integer) (after : Operand → Continuation) → index_of i ≢ index_of j
      → put (ElementOf name (Integral i)) (Integral v) variables (λ now. fetch (ElementOf name (Integral j)) now after)
      ≡ fetch (ElementOf name (Integral j)) variables after
  others_are_fetched j after apart =
      ap (write_element name kind own (Integral i) (Integral v)) (read_new name variables j after (some_element (length own) (index_of i) from below))
      ∙ others_stay name kind own i v j after from below apart

  -- what the new elements don't change goes on as it was
  unchanged : {X : Type 0} (of : Variables → X) (after : X → Continuation) → ((new : List (Option ℕ)) → of (with_elements variables name new) ≡ of variables)
      → put (ElementOf name (Integral i)) (Integral v) variables (λ now. after (of now)) ≡ after (of variables)
  unchanged of after stays =
      ap (write_element name kind own (Integral i) (Integral v)) (fun_ext (λ new. ap after (stays new)))
      ∙ length_stays name kind own i v (λ _. after (of variables)) from below

  pub arrays_stay : (x : ℕ) (after : List (Option ℕ) → Continuation) → x ≢ name
      → put (ElementOf name (Integral i)) (Integral v) variables (λ now. after (elements_of now x)) ≡ after (elements_of variables x)
  arrays_stay x after apart = unchanged (λ now. elements_of now x) after (λ new. array_stays name new variables x apart)

  pub variables_stay : (x : ℕ) (after : Option Operand → Continuation)
      → put (ElementOf name (Integral i)) (Integral v) variables (λ now. after (look now x)) ≡ after (look variables x)
  variables_stay x after = unchanged (λ now. look now x) after (λ new. look_stays name new variables x)
