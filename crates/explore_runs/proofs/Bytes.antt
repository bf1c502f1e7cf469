-- The first byte at which two lists of buffers differ.
use Rattle.std.proofs.Common.{◌≡◌, ℕ, ◌+◌, ◌<◌, List, slice_get, ◌⊎◌, inl, inr, sym, ap, ◌∙◌, subst}
use Rattle.replay.proofs.Spots.{below_next}

-- one more byte is alike
pub one_more :
    (one other : List ℕ) (k : ℕ) → ((j : ℕ) → j < k → slice_get one j ≡ slice_get other j) → slice_get one k ≡ slice_get other k
    → (j : ℕ) → j < k + 1 → slice_get one j ≡ slice_get other j
one_more one other k low here j b = go (below_next j k b)
  where
    go : (j < k) ⊎ (j ≡ k) → slice_get one j ≡ slice_get other j
    go (inl less) = low j less
    go (inr same) = ap (slice_get one) same ∙ here ∙ ap (slice_get other) (sym same)

-- what holds below a number and at it holds below the next
pub one_more_of : (P : ℕ → Type 0) (k : ℕ) → ((j : ℕ) → j < k → P j) → P k → (j : ℕ) → j < k + 1 → P j
one_more_of P k low here j b = go (below_next j k b)
  where
    go : (j < k) ⊎ (j ≡ k) → P j
    go (inl less) = low j less
    go (inr same) = subst P (sym same) here
