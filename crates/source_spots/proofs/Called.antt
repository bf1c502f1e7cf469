-- One call more.
use Rattle.std.proofs.Common.{◌≡◌, ℕ, zero, suc, ◌+◌, ◌<◌, ◌⊎◌, inl, inr, Some, List, [], ◌∷◌, ◌++◌, length, get_or, slice_get, refl, ap, sym, subst, ◌∙◌, arith}
use Rattle.std.proofs.lemmas.List.{length-append}
use Rattle.std.proofs.lemmas.Option.{get_or_from_slice_get, slice_get_within}
use Rattle.explanation.specs.declared.places.CallSite.{CallSite}
use Rattle.source_spots.specs.Spots.{BeginAt, IsCall}

some_is : {A : Type 0} (x y : A) → Some x ≡ Some y → x ≡ y
some_is x y e = cc

got_more : {A : Type 0} (xs : List A) (x y : A) (k : ℕ) → slice_get (xs ++ x ∷ []) k ≡ Some y → ((k < length xs) × (slice_get xs k ≡ Some y)) ⊎ ((k ≡ length xs) × (x ≡ y))
got_more [] x y zero e = inr (refl, some_is x y e)
got_more [] x y (suc k) e = let h = slice_get_within [] k y e in absurd (omega (arith, h))
got_more (z ∷ xs) x y zero e = inl (omega arith, e)
got_more (z ∷ xs) x y (suc k) e = next (got_more xs x y k e)
  where
    next : ((k < length xs) × (slice_get xs k ≡ Some y)) ⊎ ((k ≡ length xs) × (x ≡ y)) → ((suc k < length (z ∷ xs)) × (slice_get (z ∷ xs) (suc k) ≡ Some y)) ⊎ ((suc k ≡ length (z ∷ xs)) × (x ≡ y))
    next (inl h) = inl (omega (arith, h.0), h.1)
    next (inr h) = inr (omega (arith, h.0), h.1)

pub called_more :
    (text : List ℕ) (first : ℕ) (through : List ℕ) (i d : ℕ) (calls new : List CallSite) (call : CallSite) → new ≡ calls ++ call ∷ [] → IsCall text first (get_or through i d) call
    → (length calls ≡ i) × BeginAt text first through calls → (length new ≡ i + 1) × BeginAt text first through new
called_more text first through i d calls new call e is (many, each) =
    (omega (arith, ap length e, length-append calls (call ∷ []), many), λ k at x t g. one k at x t (got_more calls call x k (sym (ap (λ l. slice_get l k) e) ∙ g)))
  where
    one :
        (k at : ℕ) (x : CallSite) → slice_get through k ≡ Some at → ((k < length calls) × (slice_get calls k ≡ Some x)) ⊎ ((k ≡ length calls) × (call ≡ x)) → IsCall text first at x
    one k at x t (inl h) = each k at x t h.1
    one k at x t (inr h) =
        let there = subst (λ j. slice_get through j ≡ Some at) (h.0 ∙ many) t in
        subst (λ z. IsCall text first at z) h.1 (subst (λ n. IsCall text first n call) (get_or_from_slice_get through i at d there) is)
