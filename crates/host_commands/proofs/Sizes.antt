-- Sizes of an index space.
use Rattle.std.proofs.Common.{◌≡◌, ℕ, zero, suc, ◌+◌, ◌*◌, ◌-◌, ◌^◌, ◌/◌, ◌%◌, ◌==◌, ◌≤◌, ◌<◌, Bool, true, false, not, ◌||◌, nat_lt, List, [], ◌∷◌, length, All, refl, ap, sym, ◌∙◌, arith}
use Rattle.std.specs.List.{list_any, zip}
use Rattle.std.proofs.lemmas.Nat.{div-add-mod', mod-mul-add}
use Rattle.std.proofs.lemmas.List.Elements.{All-nil, All-cons}
use Rattle.std.proofs.lemmas.Bool.{eqb-true, or_parts}
use Rattle.std.proofs.lemmas.Bool.Decides.{nat_tests}
use Rattle.clmodel.specs.Setup.{product, item_count, group_items}
use Rattle.clmodel.specs.declared.setup.Range.{Range}
use Rattle.host_commands.specs.Ranges.{is_bad_dimension, IsLaunchable}
use Rattle.limits.specs.declared.Limits.{Limits}

so : (a : Bool) → not a ≡ false → a ≡ true
so true h = refl
so false h = cc

positive : (y : ℕ) → (y == 0) ≡ false → 0 < y
positive y h = grind (arith, nat_tests)

positive_times : (y p : ℕ) → 0 < y → 0 < p → 0 < y * p
positive_times zero p a b = absurd (omega arith)
positive_times (suc y) p a b = grind arith

at_most : (n m : ℕ) → nat_lt n m ≡ false → m ≤ n
at_most n m h = grind (arith, nat_tests)

within : (n m : ℕ) → n ≤ m → m ≤ 1024 → n ≤ 1024
within n m few small = omega (arith, few, small)

whole_times : (x y p q : ℕ) → 0 < y → 0 < q → x % y ≡ 0 → p % q ≡ 0 → (x * p) % (y * q) ≡ 0
whole_times x y p q some others even rest =
    let n : ℕ = y * q in
    let k : ℕ = x / y * (p / q) in
    let first : x / y * y ≡ x = omega (arith, div-add-mod' x y) in
    let second : p / q * q ≡ p = omega (arith, div-add-mod' p q) in
    let split : x * p ≡ k * n + 0 = sym (ap (λ a. a * p) first) ∙ sym (ap (λ b. x / y * y * b) second) ∙ times (x / y) y (p / q) q in
    ap (λ a. a % n) split ∙ mod-mul-add k n 0 (positive_times y q some others)
  where
    times : (a b c d : ℕ) → a * b * (c * d) ≡ a * c * (b * d) + 0
    times a b c d = grind arith

positive_product : (xs ys : List ℕ) → length ys ≡ length xs
    → list_any (λ p. (p.0 == 0) || (p.1 == 0) || not (p.0 % p.1 == 0)) (zip xs ys) ≡ false → 0 < product ys
positive_product [] [] l h = omega arith
positive_product [] (y ∷ ys) l h = absurd (omega arith)
positive_product (x ∷ xs) [] l h = absurd (omega arith)
positive_product (x ∷ xs) (y ∷ ys) l h =
    let both = or_parts ((x == 0) || (y == 0) || not (x % y == 0)) (list_any (λ p. (p.0 == 0) || (p.1 == 0) || not (p.0 % p.1 == 0)) (zip xs ys)) h in
    let first = or_parts ((x == 0) || (y == 0)) (not (x % y == 0)) both.0 in
    let second = or_parts (x == 0) (y == 0) first.0 in
    let l' : length ys ≡ length xs = omega arith in
    positive_times y (product ys) (positive y second.1) (positive_product xs ys l' both.1)

all_positive : (xs ys : List ℕ) → length ys ≡ length xs
    → list_any (λ p. (p.0 == 0) || (p.1 == 0) || not (p.0 % p.1 == 0)) (zip xs ys) ≡ false → All (λ size. 0 < size) ys
all_positive [] [] l h = All-nil (λ size. 0 < size)
all_positive [] (y ∷ ys) l h = absurd (omega arith)
all_positive (x ∷ xs) [] l h = absurd (omega arith)
all_positive (x ∷ xs) (y ∷ ys) l h =
    let both = or_parts ((x == 0) || (y == 0) || not (x % y == 0)) (list_any (λ p. (p.0 == 0) || (p.1 == 0) || not (p.0 % p.1 == 0)) (zip xs ys)) h in
    let first = or_parts ((x == 0) || (y == 0)) (not (x % y == 0)) both.0 in
    let second = or_parts (x == 0) (y == 0) first.0 in
    let l' : length ys ≡ length xs = omega arith in
    All-cons (λ size. 0 < size) y ys (positive y second.1) (all_positive xs ys l' both.1)

of_length : (range : Range) → is_bad_dimension range ≡ false → length range.local ≡ length range.global
of_length range h =
    let a = or_parts ((length range.global == 0) || nat_lt 3 (length range.global) || not (length range.local == length range.global) || not (length range.offset == length range.global)) (list_any (λ p. nat_lt (2 ^ 64 - 1) (p.0 + p.1)) (zip range.offset range.global)) h in
    let b = or_parts ((length range.global == 0) || nat_lt 3 (length range.global) || not (length range.local == length range.global)) (not (length range.offset == length range.global)) a.0 in
    let c = or_parts ((length range.global == 0) || nat_lt 3 (length range.global)) (not (length range.local == length range.global)) b.0 in
    eqb-true (length range.local) (length range.global) (so (length range.local == length range.global) c.1)

whole_product : (xs ys : List ℕ) → length ys ≡ length xs
    → list_any (λ p. (p.0 == 0) || (p.1 == 0) || not (p.0 % p.1 == 0)) (zip xs ys) ≡ false → product xs % product ys ≡ 0
whole_product [] [] l h = refl
whole_product [] (y ∷ ys) l h = absurd (omega arith)
whole_product (x ∷ xs) [] l h = absurd (omega arith)
whole_product (x ∷ xs) (y ∷ ys) l h =
    let both = or_parts ((x == 0) || (y == 0) || not (x % y == 0)) (list_any (λ p. (p.0 == 0) || (p.1 == 0) || not (p.0 % p.1 == 0)) (zip xs ys)) h in
    let first = or_parts ((x == 0) || (y == 0)) (not (x % y == 0)) both.0 in
    let second = or_parts (x == 0) (y == 0) first.0 in
    let l' : length ys ≡ length xs = omega arith in
    whole_times x y (product xs) (product ys) (positive y second.1) (positive_product xs ys l' both.1) (eqb-true (x % y) 0 (so (x % y == 0) first.1))
    (whole_product xs ys l' both.1)

-- what a launch may have on a device of these limits: at least one item in each group, as many as its limits allow, and
-- whole groups
pub record Sizes (limits : Limits) (range : Range) : Type 0 where
  pub few : item_count range ≤ limits.items
  pub positive : 0 < group_items range
  pub small : group_items range ≤ limits.group_items
  pub fits : group_items range ≤ 1024
  pub whole : item_count range % group_items range ≡ 0
  pub sized : All (λ size. 0 < size) range.local

pub sizes : (limits : Limits) (range : Range) → IsLaunchable limits range → Sizes limits range
sizes limits range h =
    let l = of_length range h.dimensioned in
    let g = or_parts (list_any (λ p. (p.0 == 0) || (p.1 == 0) || not (p.0 % p.1 == 0)) (zip range.global range.local)) (nat_lt limits.group_items (group_items range)) h.grouped in
    record {
      few = at_most limits.items (item_count range) h.few;
      positive = positive_product range.global range.local l g.0;
      small = at_most limits.group_items (group_items range) g.1;
      fits = within (group_items range) limits.group_items (at_most limits.group_items (group_items range) g.1) limits.small_groups;
      whole = whole_product range.global range.local l g.0;
      sized = all_positive range.global range.local l g.0;
    }
