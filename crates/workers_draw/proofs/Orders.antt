-- Results in order.
use Rattle.std.proofs.Common.{◌≡◌, ℕ, zero, suc, ◌+◌, ◌<◌, ◌≤◌, List, [], ◌∷◌, ◌++◌, Bool, true, false, true≢false, Option, Some, None, length, slice_get, refl, sym, ap, ◌∙◌, subst, ⊎_elim, inl, inr, arith}
use lib.ListN.{length-append}
use Rattle.workers_draw.specs.Groups.{AreResults, IsThere, AreComplete}

module _ {T : Type 0} (gives : ℕ → T → Type 0) (is_stopped : T → Bool) where
  -- results of groups from one on, none of which stopped
  abbrev pub SoFar : ℕ → List T → Type 0
  SoFar n [] = Unit {0}
  SoFar n (o ∷ os) = gives n o × (is_stopped o ≡ false) × SoFar (suc n) os

  pub so_far_push : (n : ℕ) (os : List T) (o : T) → SoFar n os → gives (n + length os) o → is_stopped o ≡ false → SoFar n (os ++ o ∷ [])
  so_far_push n [] o s is calm = (subst (λ k. gives k o) (omega arith) is, calm, tt)
  so_far_push n (x ∷ os) o s is calm = (s.0, s.1, so_far_push (suc n) os o s.2 (subst (λ k. gives k o) (omega arith) is) calm)

  pub ends_full : (count n : ℕ) (os : List T) → SoFar n os → count ≤ n + length os → AreResults count gives is_stopped n os
  ends_full count n [] s far = omega (arith, far)
  ends_full count n (x ∷ os) s far = (s.0, inr (s.1, ends_full count (suc n) os s.2 (omega (arith, far))))

  pub ends_stopped : (count n : ℕ) (os : List T) (o : T) → SoFar n os → gives (n + length os) o → is_stopped o ≡ true → AreResults count gives is_stopped n (os ++ o ∷ [])
  ends_stopped count n [] o s is stop = (subst (λ k. gives k o) (omega arith) is, inl (stop, refl))
  ends_stopped count n (x ∷ os) o s is stop = (s.0, inr (s.1, ends_stopped count (suc n) os o s.2 (subst (λ k. gives k o) (omega arith) is) stop))

  pub so_far_at : (n : ℕ) (os : List T) (k : ℕ) → SoFar n os → k < length os → (o : T) × gives (n + k) o × (is_stopped o ≡ false)
  so_far_at n [] k s low = absurd (omega arith)
  so_far_at n (x ∷ os) zero s low = (x, subst (λ k. gives k x) (omega arith) s.0, s.1)
  so_far_at n (x ∷ os) (suc k) s low = let r = so_far_at (suc n) os k s.2 (omega (arith, low)) in (r.0, subst (λ m. gives m r.0) (omega arith) r.1, r.2)

pub get_seam : {A : Type 0} (xs : List A) (x : A) (ys : List A) → slice_get (xs ++ x ∷ ys) (length xs) ≡ Some x
get_seam [] x ys = refl
get_seam (y ∷ xs) x ys = get_seam xs x ys

none_some : {A : Type 0} (x : A) → Some None ≡ Some (Some x) → ⊥
none_some x e = cc

-- the place of the next group isn't empty
pub not_empty : {T : Type 0} (count : ℕ) (gives : ℕ → T → Type 0) (stops : ℕ → Type 0) (is_stopped : T → Bool) (places : List (Option T)) (front rest : List (Option T)) (os : List T)
    → ((n : ℕ) (o : T) → gives n o → stops n → is_stopped o ≡ true) → length places ≡ count → AreComplete count stops places → SoFar gives is_stopped 0 os → length front ≡ length os
    → places ≡ front ++ None ∷ rest → ⊥
not_empty count gives stops is_stopped places front rest os law size complete s same e =
    ⊎_elim
    (λ (there : IsThere places (length front)). none_some there.0 (sym (get_seam front None rest) ∙ (ap (λ ps. slice_get ps (length front)) (sym e) ∙ there.1)))
    (λ (t : (least : ℕ) × (least < length front) × stops least).
    let r = so_far_at gives is_stopped 0 os t.0 s (let l = t.1 in omega (arith, l, same)) in
    true≢false (sym (law t.0 r.0 (subst (λ m. gives m r.0) (omega arith) r.1) t.2) ∙ r.2))
    (complete (length front) (let l = length-append front (None ∷ rest) in let m : length places ≡ length (front ++ None ∷ rest) = ap length e in omega (arith, l, m, size)))
