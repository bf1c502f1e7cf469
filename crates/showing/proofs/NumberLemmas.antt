-- Numbers that lie one behind another, and their text.
use Rattle.std.proofs.Common.{◌≡◌, ℕ, ◌+◌, ◌*◌, ◌/◌, ◌<◌, ◌≤◌, ℤ, List, [], ◌∷◌, ◌++◌, suc, map, length, take, get_or, ap, sym, subst, ◌∙◌, arith, le_refl, mul-suc, mul_comm, div-mul-le_self, zero-add}
use Rattle.std.proofs.lemmas.List.{append-nil}
use Rattle.std.proofs.lemmas.List.FromFn.{get_or-map-range_with_len, length-map-range_with_len, map-range_with_len_more, take-map-range_with_len}
use Rattle.std.proofs.lemmas.Grind.{flat_map-append}
use Rattle.std.proofs.lemmas.Nat.{mul-le}
use Rattle.std.specs.List.{flat_map, range_with_len}
use Rattle.byte_io.specs.Sink.{Sink, Wrote, Stopped}
use Rattle.byte_io.proofs.Puts.{stopped_item, wrote_then}
use Rattle.showing.specs.Numbers.{number_text}

-- behind so many numbers there is room for one more
pub room : (size index count long : ℕ) → index < count → size * count ≤ long → size * index + size ≤ long
room size index count long less fits =
    let more : size * suc index ≤ size * count = mul-le size (suc index) size count (le_refl size) (omega (arith, less)) in
    omega (arith, more, mul-suc size index, fits)

-- as many numbers as there is room for
pub as_many : (size long : ℕ) → size * (long / size) ≤ long
as_many size long = rw mul_comm (div-mul-le_self long size)

module _ (f : ℕ → ℤ) where
  abbrev numbers : ℕ → List ℤ
  numbers count = map f (range_with_len 0 count)

  one_more : (index : ℕ) → flat_map number_text (numbers (index + 1)) ≡ flat_map number_text (numbers index) ++ number_text (f index)
  one_more index =
      ap (flat_map number_text) (map-range_with_len_more f 0 index index (zero-add index))
      ∙ (flat_map-append number_text (numbers index) (f index ∷ []) ∙ ap (λ (l : List ℕ). flat_map number_text (numbers index) ++ l) (append-nil (number_text (f index))))

  -- one more number was written
  pub wrote_number : {a b c : Sink} (index : ℕ) (number : ℤ) → number ≡ f index → Wrote a b (flat_map number_text (numbers index)) → Wrote b c (number_text number)
      → Wrote a c (flat_map number_text (numbers (index + 1)))
  wrote_number {a} {b} {c} index number is so_far more =
      subst (λ (l : List ℕ). Wrote a c l) (sym (one_more index)) (wrote_then so_far (subst (λ (z : ℤ). Wrote b c (number_text z)) is more))

  -- a write failed at one of the numbers
  pub stopped_number : {a b c : Sink} (index count : ℕ) (number : ℤ) → index < count → number ≡ f index → Wrote a b (flat_map number_text (numbers index)) → Stopped b c (number_text number)
      → Stopped a c (flat_map number_text (numbers count))
  stopped_number {a} {b} {c} index count number less is so_far more =
      let front : take index (numbers count) ≡ numbers index = take-map-range_with_len f 0 count index (omega (arith, less)) in
      let this : get_or (numbers count) index number ≡ f index = get_or-map-range_with_len f 0 count index index number less (zero-add index) in
      let within : index < length (numbers count) = subst (λ (n : ℕ). index < n) (sym (length-map-range_with_len f 0 count)) less in
      stopped_item number_text (numbers count) index number (is ∙ sym this) within (subst (λ (l : List ℤ). Wrote a b (flat_map number_text l)) (sym front) so_far) more
