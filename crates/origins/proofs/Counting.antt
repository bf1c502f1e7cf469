-- How long the code of functions is.
use Rattle.std.proofs.Common.{◌≡◌, ℕ, zero, suc, ◌+◌, ◌<◌, ◌≤◌, ◌⊎◌, inl, inr, Option, None, Some, List, [], ◌∷◌, ◌++◌, take, length, get_or, slice_get, refl, ap, sym, subst, ◌∙◌, arith}
use Rattle.std.proofs.lemmas.List.{take-take, length-append}
use Rattle.std.proofs.lemmas.Option.{slice_get_within}
use Rattle.clmodel.specs.Tree.{func}
use Rattle.clmodel.specs.declared.tree.Function.{Function}
use Rattle.origins.specs.Helpers.{IsLength, LengthsKnown}
use Rattle.origins.specs.Origins.{function_origins, origins_at, there}
use Rattle.origins.proofs.Finding.{there_is}

-- what stands at a place of the first ones
pub got_taken : {A : Type 0} (xs : List A) (n k : ℕ) → k < n → slice_get (take n xs) k ≡ slice_get xs k
got_taken xs zero k h = absurd (omega (arith, h))
got_taken [] (suc n) k h = refl
got_taken (x ∷ xs) (suc n) zero h = refl
got_taken (x ∷ xs) (suc n) (suc k) h = got_taken xs n k (omega (arith, h))

pub got_below : {A : Type 0} (xs : List A) (n k : ℕ) (y : A) → slice_get (take n xs) k ≡ Some y → k < n
got_below xs zero k y e = let h = slice_get_within (take zero xs) k y e in absurd (omega (arith, h))
got_below [] (suc n) k y e = let h = slice_get_within [] k y e in absurd (omega (arith, h))
got_below (x ∷ xs) (suc n) zero y e = omega arith
got_below (x ∷ xs) (suc n) (suc k) y e = let h = got_below xs n k y e in omega (arith, h)

some_is : {A : Type 0} (x y : A) → Some x ≡ Some y → x ≡ y
some_is x y e = cc

got_more : {A : Type 0} (xs : List A) (x y : A) (k : ℕ) → slice_get (xs ++ x ∷ []) k ≡ Some y → ((k < length xs) × (slice_get xs k ≡ Some y)) ⊎ ((k ≡ length xs) × (x ≡ y))
got_more [] x y zero e = inr (refl, some_is x y e)
got_more [] x y (suc k) e = let h = slice_get_within [] k y e in absurd (omega (arith, h))
got_more (z ∷ xs) x y zero e = inl (omega arith, e)
got_more (z ∷ xs) x y (suc k) e = next (got_more xs x y k e)
  where
    next : ((k < length xs) × (slice_get xs k ≡ Some y)) ⊎ ((k ≡ length xs) × (x ≡ y)) → ((suc k < length (z ∷ xs)) × (slice_get (z ∷ xs) (suc k) ≡ Some y)) ⊎ ((suc k ≡ length (z ∷ xs)) × (x ≡ y))
    next (inl h) = inl (omega (arith, h.0), h.1)
    next (inr h) = inr (omega (arith, h.0), h.1)

-- the code of a function, among those before a later one
pub origins_before : (fs : List Function) (end place : ℕ) → place < end → origins_at (take end fs) place ≡ origins_at fs place
origins_before fs end place h = ap (λ f. there (take end fs) place f) (got_taken fs end place h) ∙ same (slice_get fs place)
  where
    same : (f : Option Function) → there (take end fs) place f ≡ there fs place f
    same None = refl
    same (Some f) = ap (λ gs. function_origins gs (func f)) (take-take place end fs (omega (arith, h)))

length_taken : {A B : Type 0} (xs : List A) (ys : List B) (n : ℕ) → length xs ≡ length ys → length (take n xs) ≡ length (take n ys)
length_taken xs ys zero h = refl
length_taken [] [] (suc n) h = refl
length_taken [] (y ∷ ys) (suc n) h = absurd (omega (arith, h))
length_taken (x ∷ xs) [] (suc n) h = absurd (omega (arith, h))
length_taken (x ∷ xs) (y ∷ ys) (suc n) h = ap suc (length_taken xs ys n (omega (arith, h)))

-- the length of the code at a place
pub length_there : (fs : List Function) (ls : List (Option ℕ)) (place : ℕ) (n : Option ℕ) → LengthsKnown fs ls → slice_get ls place ≡ Some n → IsLength (origins_at fs place) n
length_there fs ls place None k e = k.long place e
length_there fs ls place (Some n) k e = k.known place n e

pub known_each : (fs : List Function) (ls : List (Option ℕ)) → length ls ≡ length fs → ((place : ℕ) (n : Option ℕ) → slice_get ls place ≡ Some n → IsLength (origins_at fs place) n) → LengthsKnown fs ls
known_each fs ls many each =
    record {
      complete = many;
      known = λ place n e. each place (Some n) e;
      long = λ place e. each place None e;
    }

pub known_before : (fs : List Function) (ls : List (Option ℕ)) (end : ℕ) → LengthsKnown fs ls → LengthsKnown (take end fs) (take end ls)
known_before fs ls end k =
    known_each (take end fs) (take end ls) (length_taken ls fs end k.complete)
    (λ place n e.
    let below = got_below ls end place n e in
    subst (λ os. IsLength os n) (sym (origins_before fs end place below)) (length_there fs ls place n k (sym (got_taken ls end place below) ∙ e)))

pub known_none : LengthsKnown [] []
known_none = known_each [] [] refl (λ place n e. let h = slice_get_within [] place n e in absurd (omega (arith, h)))

taken : {A : Type 0} (xs : List A) (n : ℕ) → n ≤ length xs → length (take n xs) ≡ n
taken xs zero h = refl
taken [] (suc n) h = absurd (omega (arith, h))
taken (x ∷ xs) (suc n) h = ap suc (taken xs n (omega (arith, h)))

-- one function more
pub known_more : (fs : List Function) (ls : List (Option ℕ)) (i : ℕ) (f : Function) (n : Option ℕ) → i < length fs → f ≡ get_or fs i f → LengthsKnown (take i fs) ls
    → IsLength (function_origins (take i fs) (func f)) n → LengthsKnown (take (i + 1) fs) (ls ++ n ∷ [])
known_more fs ls i f n below is k last =
    known_each (take (i + 1) fs) (ls ++ n ∷ []) (omega (arith, short, many, longer, k.complete)) (λ place m e. known place m (got_more ls n m place e))
  where
    short : length (take i fs) ≡ i
    short = taken fs i (omega (arith, below))

    many : length (take (i + 1) fs) ≡ i + 1
    many = taken fs (i + 1) (omega (arith, below))

    longer : length (ls ++ n ∷ []) ≡ length ls + length (n ∷ [])
    longer = length-append ls (n ∷ [])

    known : (place : ℕ) (m : Option ℕ) → ((place < length ls) × (slice_get ls place ≡ Some m)) ⊎ ((place ≡ length ls) × (n ≡ m)) → IsLength (origins_at (take (i + 1) fs) place) m
    known place m (inl h) =
        let early : place < i = omega (arith, h.0, k.complete, short) in
        subst (λ os. IsLength os m) (origins_before fs i place early ∙ sym (origins_before fs (i + 1) place (omega (arith, early)))) (length_there (take i fs) ls place m k h.1)
    known place m (inr h) =
        let here : place ≡ i = omega (arith, h.0, k.complete, short) in
        subst (λ p. IsLength (origins_at (take (i + 1) fs) p) m) (sym here)
        (subst (λ os. IsLength os m) (sym (origins_before fs (i + 1) i (omega arith) ∙ there_is fs i f below is)) (subst (λ x. IsLength (function_origins (take i fs) (func f)) x) h.1 last))
