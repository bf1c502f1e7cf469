-- Results at their places.
use Rattle.std.proofs.Common.{◌≡◌, ◌≢◌, ◌⊎◌, ℕ, zero, suc, ◌<◌, List, [], ◌∷◌, ◌++◌, Option, Some, length, set, slice_get, All, Any, get_or, refl, sym, ap, ◌∙◌, subst, inl, inr, arith}
use mathlib.Core.Logic.{dite}
use native.Mathlib.Decide.{ℕ_discrete, dec_le}
use lib.ListN.{length-append}
use Rattle.std.proofs.lemmas.List.{get_or_append_left}
use Rattle.std.proofs.Math.Seq.{get_or-append_seam}
use Rattle.workers_draw.specs.Groups.{IsThere, InPlace}

module _ {A : Type 0} where
  pub get_set : (xs : List A) (i : ℕ) (x : A) → i < length xs → slice_get (set xs i x) i ≡ Some x
  get_set [] i x h = absurd (omega arith)
  get_set (y ∷ ys) zero x h = refl
  get_set (y ∷ ys) (suc i) x h = get_set ys i x (omega arith)

  pub get_set_else : (xs : List A) (i j : ℕ) (x : A) → j ≢ i → slice_get (set xs i x) j ≡ slice_get xs j
  get_set_else [] i j x n = refl
  get_set_else (y ∷ ys) zero zero x n = absurd (n refl)
  get_set_else (y ∷ ys) zero (suc j) x n = refl
  get_set_else (y ∷ ys) (suc i) zero x n = refl
  get_set_else (y ∷ ys) (suc i) (suc j) x n = get_set_else ys i j x (λ e. n (ap suc e))

  pub get_within : (xs : List A) (i : ℕ) (x : A) → slice_get xs i ≡ Some x → i < length xs
  get_within [] i x e = absurd (cc)
  get_within (y ∷ ys) zero x e = omega arith
  get_within (y ∷ ys) (suc i) x e = let h = get_within ys i x e in omega (arith, h)

some_inner : {A : Type 0} (x y : A) → Some (Some x) ≡ Some (Some y) → x ≡ y
some_inner x y e = cc

module _ {T : Type 0} (gives : ℕ → T → Type 0) (places : List (Option T)) (n : ℕ) (o : T) where
  pub right_set : n < length places → InPlace gives places → gives n o → InPlace gives (set places n (Some o))
  right_set low all is group output at =
      dite (ℕ_discrete group n)
      (λ same. let e : o ≡ output = some_inner o output (sym (get_set places n (Some o) low) ∙ (ap (λ k. slice_get (set places n (Some o)) k) (sym same) ∙ at)) in
      subst (λ k. gives k output) (sym same) (subst (gives n) e is))
      (λ other. all group output (sym (get_set_else places n group (Some o) other) ∙ at))

  pub kept_set : n < length places → (group : ℕ) → IsThere places group → IsThere (set places n (Some o)) group
  kept_set low group there =
      dite (ℕ_discrete group n)
      (λ same. (o, ap (λ k. slice_get (set places n (Some o)) k) same ∙ get_set places n (Some o) low))
      (λ other. (there.0, get_set_else places n group (Some o) other ∙ there.1))

  pub there_set : n < length places → (group : ℕ) → group ≡ n → IsThere (set places n (Some o)) group
  there_set low group same = (o, ap (λ k. slice_get (set places n (Some o)) k) same ∙ get_set places n (Some o) low)

module _ {A : Type 0} where
  pub any_snoc : (P : A → Type 0) (xs : List A) (x : A) → Any P (xs ++ x ∷ []) → Any P xs ⊎ P x
  any_snoc P xs x a =
      dite (dec_le (suc a.0) (length xs))
      (λ low. inl (a.0, a.1, low, sym (get_or_append_left xs (x ∷ []) a.1 a.0 low) ∙ a.3, a.4))
      (λ high. let l = length-append xs (x ∷ []) in let b = a.2 in
      let k : a.0 ≡ length xs = omega (arith, high, l, b) in
      inr (subst P (sym a.3 ∙ (ap (λ n. get_or (xs ++ x ∷ []) n a.1) k ∙ get_or-append_seam xs x [] a.1)) a.4))

  pub all_seam : (P : A → Type 0) (xs : List A) (x : A) (ys all : List A) → All P all → all ≡ xs ++ x ∷ ys → P x
  all_seam P xs x ys all h e =
      subst P (ap (λ zs. get_or zs (length xs) x) e ∙ get_or-append_seam xs x ys x) (h (length xs) x (let l = length-append xs (x ∷ ys) in let m : length all ≡ length (xs ++ x ∷ ys) = ap length e in omega (arith, l, m)))
