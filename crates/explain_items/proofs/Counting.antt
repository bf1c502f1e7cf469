-- The number of an element that passes is known by how many pass before it, and the last one is known.
use Rattle.std.proofs.Common.{◌≡◌, ℕ, ◌+◌, ◌<◌, ◌≤◌, ◌⊎◌, Bool, cond, true, Option, None, Some, List, length, take, count_by, arith, inl, inr, sym, ◌∙◌, subst}
use Rattle.std.specs.Prelude.{get_or, slice_get}
use Rattle.std.proofs.lemmas.Grind.{common_steps}
use Rattle.std.proofs.lemmas.Bool.{false≢true}
use Rattle.std.proofs.lemmas.List.Sums.{count_by_more_yes, sum_by-take-le}
use Rattle.std.proofs.lemmas.Option.{get_or_from_slice_get, slice_get_cases}
use Rattle.fault_play.specs.PlayedOut.{IsLastEvent}

none_some : {A : Type 0} (x : A) → None ≡ Some x → ⊥
none_some x e = cc

pub some_below : {A : Type 0} (xs : List A) (m : ℕ) (x : A) → slice_get xs m ≡ Some x → m < length xs
some_below {A = A} xs m x e = go ((slice_get_cases xs m).1)
  where
    go : ((y : A) × (m < length xs) × (slice_get xs m ≡ Some y) × (get_or xs m y ≡ y)) ⊎ ((length xs ≤ m) × (slice_get xs m ≡ None)) → m < length xs
    go (inl h) = h.1
    go (inr h) = absurd (none_some x (sym h.1 ∙ e))

more_counted : {A : Type 0} (p : A → Bool) (xs : List A) (m : ℕ) (x : A) → slice_get xs m ≡ Some x → p x ≡ true → count_by p (take (m + 1) xs) ≡ count_by p (take m xs) + 1
more_counted p xs m x at passes =
    count_by_more_yes p xs m x (some_below xs m x at) (subst (λ y. p y ≡ true) (sym (get_or_from_slice_get xs m x x at)) passes)

counted_within : {A : Type 0} (p : A → Bool) (xs : List A) (m n : ℕ) → m ≤ n → count_by p (take m xs) ≤ count_by p (take n xs)
counted_within p xs m n below =
    let same : take m (take n xs) ≡ take m xs = grind (arith, common_steps) in
    subst (λ l. count_by p l ≤ count_by p (take n xs)) same (sum_by-take-le (λ x. cond (p x) 1 0) (take n xs) m)

-- of two that pass, fewer pass before the earlier one
fewer_before : {A : Type 0} (p : A → Bool) (xs : List A) (m n : ℕ) (x : A) → slice_get xs m ≡ Some x → p x ≡ true → m < n → count_by p (take m xs) < count_by p (take n xs)
fewer_before p xs m n x at passes before =
    omega (arith, more_counted p xs m x at passes, counted_within p xs (m + 1) n (omega (arith, before)))

pub passes_once :
    {A : Type 0} (p : A → Bool) (xs : List A) (m n : ℕ) (x y : A) → slice_get xs m ≡ Some x → p x ≡ true → slice_get xs n ≡ Some y → p y ≡ true
    → count_by p (take m xs) ≡ count_by p (take n xs) → m ≡ n
passes_once p xs m n x y at passes at' passes' same =
    grind (arith, fewer_before p xs m n x at passes, fewer_before p xs n m y at' passes', same)

pub passes_within : {A : Type 0} (p : A → Bool) (xs : List A) (m : ℕ) (x : A) → slice_get xs m ≡ Some x → p x ≡ true → count_by p (take m xs) < count_by p xs
passes_within p xs m x at passes =
    let all : take (length xs) xs ≡ xs = grind (arith, common_steps) in
    subst (λ l. count_by p (take m xs) < count_by p l) all (fewer_before p xs m (length xs) x at passes (some_below xs m x at))

pub one_last : (p : ℕ → Bool) (n : ℕ) (o : Option ℕ) (last : ℕ) → IsLastEvent p n o → IsLastEvent p n (Some last) → o ≡ Some last
one_last p n None last i j = absurd (false≢true (sym (i last j.0) ∙ j.1))
one_last p n (Some other) last i j = grind (arith, i.0, i.1, i.2 last, j.0, j.1, j.2 other)
