-- Rows of labels, and arguments.
use Rattle.std.proofs.Common.{◌≡◌, ℕ, zero, suc, ◌<◌, ◌≤◌, ◌==◌, ◌⊎◌, inl, inr, Bool, true, false, IsTrue, if◌then◌else◌, Option, None, Some, List, [], ◌∷◌, length, replicate, slice_get, slice_set, refl, sym, ◌∙◌, subst, arith, eqb-true, eq-eqb}
use mathlib.Core.Path.{fun_ext}
use Rattle.std.proofs.lemmas.Bool.{cases_lt, false≢true}
use Rattle.std.proofs.lemmas.List.{get_or-set_same, get_or-set_other}
use Rattle.std.proofs.lemmas.Option.{none-some}
use Rattle.clmodel.proofs.Steps.{some_inj}
use Rattle.clmodel.specs.declared.setup.Argument.{Argument}
use Rattle.regcode.specs.Machine.{argument_at}
use Rattle.same_items.specs.Flow.{Labels, covers, with_label, Covers}
use Rattle.same_items.specs.declared.label.Label.{Label}
use Rattle.same_items.specs.declared.label.Label.TheVariants as label
use Rattle.widening.specs.Listed.{labels_of, no_labels}

covers_unset : (l : Label) → covers l label.Unset ≡ true
covers_unset label.Unset = refl
covers_unset label.Same = refl
covers_unset label.Divisor = refl
covers_unset label.Free = refl
covers_unset label.ToSame = refl
covers_unset label.ToFree = refl
covers_unset label.ToAny = refl

past_row : (row : List Label) (k : ℕ) → length row ≤ k → labels_of row k ≡ label.Unset
past_row [] k h = refl
past_row (l ∷ row) zero h = absurd (omega (arith, h))
past_row (l ∷ row) (suc k) h = past_row row k (omega (arith, h))

-- what holds of each label of a row holds of all
pub all_covered : (next here : List Label) → ((k : ℕ) → k < length here → IsTrue (covers (labels_of next k) (labels_of here k))) → Covers (labels_of next) (labels_of here)
all_covered next here h k = go (cases_lt k (length here))
  where
    go : (k < length here) ⊎ (length here ≤ k) → IsTrue (covers (labels_of next k) (labels_of here k))
    go (inl less) = h k less
    go (inr past) = subst (λ z. IsTrue (covers (labels_of next k) z)) (sym (past_row here k past)) (covers_unset (labels_of next k))

-- labels cover themselves
covers_same : (l : Label) → covers l l ≡ true
covers_same label.Unset = refl
covers_same label.Same = refl
covers_same label.Divisor = refl
covers_same label.Free = refl
covers_same label.ToSame = refl
covers_same label.ToFree = refl
covers_same label.ToAny = refl

pub covers_self : (labels : Labels) → Covers labels labels
covers_self labels r = covers_same (labels r)

-- a row in which all registers are unset
unset_at : (n r : ℕ) → labels_of (replicate n label.Unset) r ≡ label.Unset
unset_at zero r = refl
unset_at (suc n) zero = refl
unset_at (suc n) (suc r) = unset_at n r

pub unset_row : (n : ℕ) → labels_of (replicate n label.Unset) ≡ no_labels
unset_row n = fun_ext (λ r. unset_at n r)

-- a row with another label of one register
pub put_row : (row : List Label) (to : ℕ) (l : Label) → to < length row → labels_of (slice_set row to l) ≡ with_label (labels_of row) to l
put_row row to l h = fun_ext (λ r. at r (r == to) refl)
  where
    at : (r : ℕ) (b : Bool) → (r == to) ≡ b → labels_of (slice_set row to l) r ≡ (if b then l else labels_of row r)
    at r true e = subst (λ z. labels_of (slice_set row to l) z ≡ l) (sym (eqb-true r to e)) (get_or-set_same row to l label.Unset h)
    at r false e = get_or-set_other row to r l label.Unset (λ same. false≢true (sym e ∙ eq-eqb r to same))

pub argument_here : (xs : List (Option Argument)) (i : ℕ) (x : Option Argument) → slice_get xs i ≡ Some x → argument_at xs i ≡ x
argument_here [] i x h = absurd (none-some x h)
argument_here (y ∷ xs) zero x h = some_inj y x h
argument_here (y ∷ xs) (suc i) x h = argument_here xs i x h

pub argument_past : (xs : List (Option Argument)) (i : ℕ) → length xs ≤ i → argument_at xs i ≡ None
argument_past [] i h = refl
argument_past (y ∷ xs) zero h = absurd (omega (arith, h))
argument_past (y ∷ xs) (suc i) h = argument_past xs i (omega (arith, h))
