-- The number of bytes of a row, as code reads it.
use Rattle.std.proofs.Common.{◌≡◌, ℕ, zero, suc, ◌+◌, ◌*◌, ◌<◌, ◌≤◌, ◌⊎◌, Option, None, Some, List, [], ◌∷◌, refl, sym, ap, ◌∙◌, inl, inr, arith, ⊎_elim, leb, false}
use Rattle.std.specs.Prelude.{length, map, Err}
use Rattle.std.specs.Option.{unwrap_or}
use Rattle.std.proofs.lemmas.Bool.{cases_lt, leb-false}
use Rattle.std.proofs.lemmas.List.{length-map}
use Rattle.clmodel.specs.Cells.{Cells, cells_of, byte_count, number, joined, unset_or}
use Rattle.clmodel.specs.declared.access.Width.{Width}
use Rattle.clmodel.proofs.CellLaws.{number_unset, byte_count_some}
use Rattle.spaces.specs.Space.{IsLoaded}
use Rattle.spaces.specs.declared.space.SpaceFault.{SpaceFault}
use Rattle.spaces.specs.declared.space.SpaceFault.TheVariants as fault
use Rattle.group_join.specs.Changes.{number_or_0}

joined_none : (o : Option ℕ) → joined o None ≡ None
joined_none None = refl
joined_none (Some x) = refl

pub first_or_later : (first byte : ℕ) → first ≤ byte → (first ≡ byte) ⊎ (suc first ≤ byte)
first_or_later first byte h = go (cases_lt first byte)
  where
    go : (first < byte) ⊎ (byte ≤ first) → (first ≡ byte) ⊎ (suc first ≤ byte)
    go (inl a) = inr (omega (arith, a))
    go (inr a) = inl (omega (arith, a, h))

-- bytes of which one is unset have no number
pub number_none : (cells : Cells) (first count byte : ℕ) → cells byte ≡ None → first ≤ byte → byte < first + count → number cells first count ≡ None
number_none cells first zero byte e h k = absurd (omega (arith, h, k))
number_none cells first (suc count) byte e h k =
    ⊎_elim (λ a. ap (λ z. joined z (number cells (suc first) count)) (ap cells a ∙ e))
    (λ a. ap (joined (cells first)) (number_none cells (suc first) count byte e a (omega (arith, k))) ∙ joined_none (cells first)) (first_or_later first byte h)

pub cells_past : (xs : List (Option ℕ)) (byte : ℕ) → length xs ≤ byte → cells_of xs byte ≡ None
cells_past [] byte h = refl
cells_past (x ∷ xs) zero h = absurd (omega (arith, h))
cells_past (x ∷ xs) (suc byte) h = cells_past xs byte (omega (arith, h))

-- bytes that don't all lie in a row have no number
pub number_past : (xs : List (Option ℕ)) (first count : ℕ) → 0 < count → length xs < first + count → number (cells_of xs) first count ≡ None
number_past xs first count b h = go (cases_lt first (length xs))
  where
    go : (first < length xs) ⊎ (length xs ≤ first) → number (cells_of xs) first count ≡ None
    go (inl a) = number_none (cells_of xs) first count (length xs) (cells_past xs (length xs) (omega arith)) (omega (arith, a)) h
    go (inr a) = number_none (cells_of xs) first count first (cells_past xs first a) (omega arith) (omega (arith, b))

unset_first : (o rest : Option ℕ) (first : ℕ) (lowest : Option ℕ) (byte : ℕ) → unset_or o first lowest ≡ Some byte → (lowest ≡ Some byte → rest ≡ None) → joined o rest ≡ None
unset_first None rest first lowest byte h none = refl
unset_first (Some x) rest first lowest byte h none = ap (joined (Some x)) (none h)

pub or_0 : (cells : Cells) (first count : ℕ) → number cells first count ≡ None → 0 ≡ number_or_0 cells first count
or_0 cells first count h = sym (ap (λ o. unwrap_or o 0) h)

-- bytes of a row that ends before
pub past_0 : (row : List ℕ) (at count : ℕ) → 0 < count → leb (at + count) (length row) ≡ false → 0 ≡ number_or_0 (cells_of (map Some row)) at count
past_0 row at count b h =
    let e : length (map Some row) ≡ length row = length-map row Some in
    or_0 (cells_of (map Some row)) at count (number_past (map Some row) at count b (omega (arith, e, leb-false (at + count) (length row) h)))

pub loaded_or_0 : (cells : Cells) (first count value : ℕ) → number cells first count ≡ Some value → value ≡ number_or_0 cells first count
loaded_or_0 cells first count value h = sym (ap (λ o. unwrap_or o 0) h)

-- where an element can't be loaded there is no number
pub not_loaded : (bytes : List (Option ℕ)) (at : ℕ) (width : Width) (f : SpaceFault) → IsLoaded bytes at width (Err f) → number (cells_of bytes) at (byte_count width) ≡ None
not_loaded bytes at width fault.Bounds h = number_past bytes at (byte_count width) (byte_count_some width) h
not_loaded bytes at width (fault.Unset byte) h = number_unset (cells_of bytes) at (byte_count width) byte h.1
not_loaded bytes at width fault.ReadOnly h = absurd h
not_loaded bytes at width fault.OutOfMemory h = absurd h

pub one_byte : (cells : Cells) (byte v : ℕ) → cells byte ≡ Some v → number_or_0 cells byte 1 ≡ v
one_byte cells byte v e = let z : v + 256 * 0 ≡ v = omega arith in ap (λ o. unwrap_or (joined o (Some 0)) 0) e ∙ z
