-- Lists with one element changed.
use Rattle.std.proofs.Common.{◌≡◌, ℕ, zero, suc, ◌⊎◌, None, Some, List, [], ◌∷◌, set, refl, sym, ap, inl, inr}
use Rattle.std.specs.Prelude.{slice_get}
use Rattle.clmodel.proofs.Steps.{none_some, some_inj}

-- an element of a list with one element changed
pub get_set :
    {A : Type 0} (xs : List A) (i : ℕ) (v : A) (j : ℕ) (x : A) → slice_get (set xs i v) j ≡ Some x → ((j ≡ i) × (v ≡ x)) ⊎ ((j ≡ i → ⊥) × (slice_get xs j ≡ Some x))
get_set [] i v j x h = absurd (none_some x h)
get_set (y ∷ ys) zero v zero x h = inl (refl, some_inj v x h)
get_set (y ∷ ys) zero v (suc j) x h = inr (λ e. cc, h)
get_set (y ∷ ys) (suc i) v zero x h = inr (λ e. cc, h)
get_set (y ∷ ys) (suc i) v (suc j) x h = go (get_set ys i v j x h)
  where
    go : ((j ≡ i) × (v ≡ x)) ⊎ ((j ≡ i → ⊥) × (slice_get ys j ≡ Some x)) → ((suc j ≡ suc i) × (v ≡ x)) ⊎ ((suc j ≡ suc i → ⊥) × (slice_get ys j ≡ Some x))
    go (inl e) = inl (ap suc e.0, e.1)
    go (inr e) = inr (λ q. e.0 cc, e.1)

pub none_set : {A : Type 0} (xs : List A) (i : ℕ) (v : A) (j : ℕ) → slice_get (set xs i v) j ≡ None → slice_get xs j ≡ None
none_set [] i v j h = h
none_set (y ∷ ys) zero v zero h = absurd (none_some v (sym h))
none_set (y ∷ ys) zero v (suc j) h = h
none_set (y ∷ ys) (suc i) v zero h = h
none_set (y ∷ ys) (suc i) v (suc j) h = none_set ys i v j h
