-- Kinds of accesses that agree, by their numbers.
use Rattle.std.proofs.Common.{◌≡◌, ℕ, ◌<◌, ◌==◌, Bool, true, false, if◌then◌else◌, Option, None, Some, refl, sym, ap, arith, eqb-true, eq-eqb}
use Rattle.std.proofs.lemmas.Bool.{false≢true}
use Rattle.clmodel.specs.Launch.{class_number, clash, both_store}
use Rattle.clmodel.specs.declared.access.AccessKind.{AccessKind}
use Rattle.clmodel.specs.declared.access.AccessKind.TheVariants as kind
use Rattle.clmodel.specs.declared.access.Class.{Class}
use Rattle.clmodel.specs.declared.access.Class.TheVariants as class
use Rattle.clmodel.specs.declared.access.Clash.TheVariants.{Race, Order}
use Rattle.clmodel.proofs.Steps.{none_some}
use Rattle.access_list.specs.Kinds.{kind_number}

some_none : {A : Type 0} (a : A) → ◌≡◌ {A = Option A} (Some a) None → ⊥
some_none a h = none_some a (sym h)

pub class_small : (c : Class) → class_number c < 8
class_small class.Add = omega arith
class_small class.And = omega arith
class_small class.Or = omega arith
class_small class.Xor = omega arith
class_small class.SignedMin = omega arith
class_small class.UnsignedMin = omega arith
class_small class.SignedMax = omega arith
class_small class.UnsignedMax = omega arith

same_class : (b : Bool) → (if b then None else Some Order) ≡ None → b ≡ true
same_class true h = refl
same_class false h = absurd (some_none Order h)

-- kinds that agree have one number
pub agree_number : (a k : AccessKind) → clash a k ≡ None → kind_number a ≡ kind_number k
agree_number kind.Load kind.Load h = refl
agree_number kind.Load kind.Store h = absurd (some_none Race h)
agree_number kind.Load (kind.Update d) h = absurd (some_none Race h)
agree_number kind.Load kind.Fetch h = absurd (some_none Race h)
agree_number kind.Store kind.Load h = absurd (some_none Race h)
agree_number kind.Store kind.Store h = absurd (some_none Race h)
agree_number kind.Store (kind.Update d) h = absurd (some_none Race h)
agree_number kind.Store kind.Fetch h = absurd (some_none Race h)
agree_number (kind.Update c) kind.Load h = absurd (some_none Race h)
agree_number (kind.Update c) kind.Store h = absurd (some_none Race h)
agree_number (kind.Update c) (kind.Update d) h = eqb-true (class_number c) (class_number d) (same_class (class_number c == class_number d) h)
agree_number (kind.Update c) kind.Fetch h = absurd (some_none Order h)
agree_number kind.Fetch kind.Load h = absurd (some_none Race h)
agree_number kind.Fetch kind.Store h = absurd (some_none Race h)
agree_number kind.Fetch (kind.Update d) h = absurd (some_none Order h)
agree_number kind.Fetch kind.Fetch h = absurd (some_none Order h)

pub not_eight : (n : ℕ) → n < 8 → n ≡ 8 → ⊥
not_eight n b e = omega (arith, b, e)

not_nine : (n : ℕ) → n < 8 → n ≡ 9 → ⊥
not_nine n b e = omega (arith, b, e)

not_ten : (n : ℕ) → n < 8 → n ≡ 10 → ⊥
not_ten n b e = omega (arith, b, e)

-- a fetch agrees with no kind
fetch_clashes : (a : AccessKind) → clash a kind.Fetch ≡ None → ⊥
fetch_clashes kind.Load h = some_none Race h
fetch_clashes kind.Store h = some_none Race h
fetch_clashes (kind.Update c) h = some_none Order h
fetch_clashes kind.Fetch h = some_none Order h

-- a kind of the number of one that agrees agrees
pub number_agrees : (a m k : AccessKind) → clash a k ≡ None → kind_number m ≡ kind_number k → clash m k ≡ None
number_agrees a kind.Load kind.Load h e = refl
number_agrees a kind.Load kind.Store h e = absurd (omega (arith, e))
number_agrees a kind.Load (kind.Update d) h e = absurd (not_eight (class_number d) (class_small d) (sym e))
number_agrees a kind.Store kind.Load h e = absurd (omega (arith, e))
number_agrees kind.Load kind.Store kind.Store h e = absurd (some_none Race h)
number_agrees kind.Store kind.Store kind.Store h e = absurd (some_none Race h)
number_agrees (kind.Update c) kind.Store kind.Store h e = absurd (some_none Race h)
number_agrees kind.Fetch kind.Store kind.Store h e = absurd (some_none Race h)
number_agrees a kind.Store (kind.Update d) h e = absurd (not_nine (class_number d) (class_small d) (sym e))
number_agrees a (kind.Update c) kind.Load h e = absurd (not_eight (class_number c) (class_small c) e)
number_agrees a (kind.Update c) kind.Store h e = absurd (not_nine (class_number c) (class_small c) e)
number_agrees a (kind.Update c) (kind.Update d) h e = ap (λ (b : Bool). if b then None else Some Order) (eq-eqb (class_number c) (class_number d) e)
number_agrees a kind.Fetch kind.Load h e = absurd (omega (arith, e))
number_agrees a kind.Fetch kind.Store h e = absurd (omega (arith, e))
number_agrees a kind.Fetch (kind.Update d) h e = absurd (not_ten (class_number d) (class_small d) (sym e))
number_agrees a m kind.Fetch h e = absurd (fetch_clashes a h)

-- a kind of the number of a store is one
pub stores_by_number : (a b k : AccessKind) → both_store a k ≡ true → kind_number b ≡ kind_number a → both_store b k ≡ true
stores_by_number kind.Store kind.Store k h e = h
stores_by_number kind.Store kind.Load k h e = absurd (omega (arith, e))
stores_by_number kind.Store (kind.Update c) k h e = absurd (not_nine (class_number c) (class_small c) e)
stores_by_number kind.Store kind.Fetch k h e = absurd (omega (arith, e))
stores_by_number kind.Load b k h e = absurd (false≢true h)
stores_by_number (kind.Update c) b k h e = absurd (false≢true h)
stores_by_number kind.Fetch b k h e = absurd (false≢true h)
