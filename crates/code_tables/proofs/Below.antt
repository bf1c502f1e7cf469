-- What each number below a count has.
use Rattle.std.proofs.Common.{◌≡◌, ℕ, zero, suc, ◌<◌, inl, inr, Some, List, [], ◌∷◌, ◌++◌, length, slice_get, get_or, refl, ap, sym, ◌∙◌, arith}
use Rattle.std.proofs.lemmas.List.{length-append}
use Rattle.std.proofs.lemmas.Option.{slice_get-get_or}
use Rattle.std.proofs.Math.Nat.{eq-or-lt_of_le}
use Rattle.code_tables.specs.Tables.{each_below}

get_left : {X : Type 0} (xs ys : List X) (i : ℕ) → i < length xs → slice_get (xs ++ ys) i ≡ slice_get xs i
get_left [] ys i h = absurd (omega (arith, h))
get_left (x ∷ xs) ys zero h = refl
get_left (x ∷ xs) ys (suc i) h = get_left xs ys i (omega (arith, h))

get_last : {X : Type 0} (xs : List X) (y : X) (i : ℕ) → i ≡ length xs → slice_get (xs ++ y ∷ []) i ≡ Some y
get_last [] y zero h = refl
get_last [] y (suc i) h = absurd (omega (arith, h))
get_last (x ∷ xs) y zero h = absurd (omega (arith, h))
get_last (x ∷ xs) y (suc i) h = get_last xs y i (omega (arith, h))

module _ {X : Type 0} (of : ℕ → X) where
  pub below_counted : (n : ℕ) → length (each_below of n) ≡ n
  below_counted zero = refl
  below_counted (suc n) =
      let all = length-append (each_below of n) (of n ∷ []) in
      let before = below_counted n in
      omega (arith, all, before)

  pub below_has : (n i : ℕ) → i < n → slice_get (each_below of n) i ≡ Some (of i)
  below_has zero i h = absurd (omega (arith, h))
  below_has (suc n) i h =
      let c = below_counted n in
      elim (eq-or-lt_of_le {n = i} {m = n} (omega (arith, h))) [
        | inl same ↦ get_last (each_below of n) (of n) i (omega (arith, c, same)) ∙ ap (λ k. Some (of k)) (sym same)
        | inr below ↦ get_left (each_below of n) (of n ∷ []) i (omega (arith, c, below)) ∙ below_has n i below
      ]

  pub below_at : (n i : ℕ) (d : X) → i < n → get_or (each_below of n) i d ≡ of i
  below_at n i d h =
      let c = below_counted n in
      let there = slice_get-get_or (each_below of n) i d (omega (arith, c, h)) in
      let has = below_has n i h in
      cc
