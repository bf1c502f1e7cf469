-- Totals over lists, and over the numbers below one.
use Rattle.std.proofs.Common.{◌≡◌, ◌≢◌, ℕ, zero, suc, ◌+◌, ◌<◌, ◌≤◌, List, [], ◌∷◌, ◌++◌, set, refl, sym, ap, ◌∙◌, arith, eq-eqb, ne_eqb, le-leb, leb, leb-true, Bool, true, false}
use mathlib.Core.Option.{some, some-ne-none, some-injective}
use mathlib.Core.Logic.{dite}
use native.Mathlib.Decide.{ℕ_discrete, dec_le}
use lib.ListN.{get_elem?}
use Rattle.workers_draw.specs.Board.{total, total_below, is_it, is_past}

module _ {A : Type 0} where
  pub total_set : (f : A → ℕ) (xs : List A) (i : ℕ) (v w : A) → get_elem? xs i ≡ some v → total f (set xs i w) + f v ≡ total f xs + f w
  total_set f [] i v w e = absurd (some-ne-none v (sym e))
  total_set f (x ∷ xs) zero v w e = let h : f x ≡ f v = ap f (some-injective x v e) in omega (arith, h)
  total_set f (x ∷ xs) (suc i) v w e = let h = total_set f xs i v w e in omega (arith, h)

  pub total-append : (f : A → ℕ) (xs ys : List A) → total f (xs ++ ys) ≡ total f xs + total f ys
  total-append f [] ys = omega arith
  total-append f (x ∷ xs) ys = let h = total-append f xs ys in omega (arith, h)

  -- one alone has what all have
  pub total_at : (f : A → ℕ) (xs : List A) (i : ℕ) (v : A) → get_elem? xs i ≡ some v → f v ≤ total f xs
  total_at f [] i v e = absurd (some-ne-none v (sym e))
  total_at f (x ∷ xs) zero v e = let h : f x ≡ f v = ap f (some-injective x v e) in omega (arith, h)
  total_at f (x ∷ xs) (suc i) v e = let h = total_at f xs i v e in omega (arith, h)

  pub total_le : (f g : A → ℕ) (xs : List A) → ((i : ℕ) (v : A) → get_elem? xs i ≡ some v → f v ≤ g v) → total f xs ≤ total g xs
  total_le f g [] h = omega arith
  total_le f g (x ∷ xs) h = let a = h 0 x refl in let b = total_le f g xs (λ i v e. h (suc i) v e) in omega (arith, a, b)

  pub total_none : (f g : A → ℕ) (xs : List A) → ((i : ℕ) (v : A) → get_elem? xs i ≡ some v → g v ≡ 0 → f v ≡ 0) → total g xs ≡ 0 → total f xs ≡ 0
  total_none f g [] h z = refl
  total_none f g (x ∷ xs) h z = let a : f x ≡ 0 = h 0 x refl (omega (arith, z)) in let b : total f xs ≡ 0 = total_none f g xs (λ i v e. h (suc i) v e) (omega (arith, z)) in omega (arith, a, b)

  -- where one has all of g, and f is 0 wherever g is, it has all of f
  pub total_alone : (f g : A → ℕ) (xs : List A) (i : ℕ) (v : A) → get_elem? xs i ≡ some v → total g xs ≡ g v → ((j : ℕ) (u : A) → get_elem? xs j ≡ some u → g u ≡ 0 → f u ≡ 0) → total f xs ≡ f v
  total_alone f g [] i v e all h = absurd (some-ne-none v (sym e))
  total_alone f g (x ∷ xs) zero v e all h =
      let gx : g x ≡ g v = ap g (some-injective x v e) in let fx : f x ≡ f v = ap f (some-injective x v e) in
      let r : total f xs ≡ 0 = total_none f g xs (λ j u at. h (suc j) u at) (omega (arith, gx, all)) in omega (arith, fx, r)
  total_alone f g (x ∷ xs) (suc i) v e all h =
      let m = total_at g xs i v e in
      let fx : f x ≡ 0 = h 0 x refl (omega (arith, all, m)) in
      let r : total f xs ≡ f v = total_alone f g xs i v e (omega (arith, all, m)) (λ j u at. h (suc j) u at) in omega (arith, fx, r)

pub is_it-same : (x : ℕ) → is_it x x ≡ 1
is_it-same x = rw (eq-eqb x x refl) refl

pub is_it-else : (x y : ℕ) → y ≢ x → is_it x y ≡ 0
is_it-else x y n = rw (ne_eqb y x n) refl

pub is_past-yes : (count y : ℕ) → count ≤ y → is_past count y ≡ 1
is_past-yes count y le = rw (le-leb count y le) refl

pub is_past-no : (count y : ℕ) → y < count → is_past count y ≡ 0
is_past-no count y lt = by_test (leb count y) refl
  where
    by_test : (b : Bool) → leb count y ≡ b → is_past count y ≡ 0
    by_test true e = absurd (let h = leb-true count y e in omega (arith, h, lt))
    by_test false e = rw e refl

pub is_past-most : (count y : ℕ) → is_past count y ≤ 1
is_past-most count y = dite (dec_le count y) (λ le. let h = is_past-yes count y le in omega (arith, h)) (λ no. let h = is_past-no count y (omega (arith, no)) in omega (arith, h))

pub below_past : (count n : ℕ) → n ≤ count + total_below (is_past count) n
below_past count zero = omega arith
below_past count (suc n) = let h = below_past count n in
    dite (dec_le count n) (λ le. let one = is_past-yes count n le in omega (arith, h, one)) (λ no. omega (arith, h, no))

pub below_has : (x n : ℕ) → x < n → 0 < total_below (is_it x) n
below_has x zero h = absurd (omega arith)
below_has x (suc n) h =
    dite (ℕ_discrete n x)
    (λ e. let one : is_it x n ≡ 1 = ap (is_it x) e ∙ is_it-same x in omega (arith, one))
    (λ ne. let r = below_has x n (omega (arith, ne)) in omega (arith, r))

pub below_not : (x n : ℕ) → n ≤ x → total_below (is_it x) n ≡ 0
below_not x zero h = refl
below_not x (suc n) h = let r = below_not x n (omega arith) in let z = is_it-else x n (λ e. absurd (omega (arith, e))) in omega (arith, r, z)
