-- What the code of the built-in functions computes, as their formulas.
use Rattle.std.proofs.Common.{◌≡◌, ℕ, suc, ◌+◌, ◌-◌, ◌*◌, ◌/◌, ◌%◌, ◌^◌, ◌<◌, ◌≤◌, ℤ, pos, refl, sym, ap, ap₂, ◌∙◌, subst, arith, true, false, Bool, List, [], ◌∷◌, length, get_or, Some, None, inl, inr, ◌⊎◌}
use Rattle.std.proofs.Math.Nat.{mod-eq_of_lt, div-lt_iff_lt-mul, mul-le-mul_right, mod-le}
use Rattle.std.proofs.Math.Pow.{pow_mono, pow_pos}
use Rattle.std.proofs.lemmas.Int.{to_z_pos, ints}
use Rattle.std.proofs.lemmas.Nat.{pow-add, leading_length}
use Rattle.std.specs.Int.Count.{count_leading_zeros, leading_unique}
use Rattle.std.specs.Int.{w128, cast_signed}
use Rattle.std.specs.Prelude.{if◌then◌else◌, int_lt, ◌<ℤ◌, ◌≤ℤ◌, FitsSigned, Option}
use denote.Enum.Bare.{sameb}
use Rattle.clnum.specs.contracts.int_type.IntType.{the_type}
use Rattle.clnum.specs.Integer.{Integer, IsIn, bits}
use Rattle.clnum.specs.Operations.{wrapped}
use Rattle.clnum.specs.Builtins.{builtin_value, of_one, of_two, turned, is_same}
use Rattle.clnum.specs.declared.int_type.IntType.{IntType}
use Rattle.clnum.specs.declared.operators.Builtin.{Builtin}
use Rattle.clnum.proofs.Ranges.{wrap-in}
use Rattle.clnum.proofs.Sameness.{same_type}
use Rattle.clnum.proofs.Formulas.{bits_le}

-- a function that has a value at one number, or at two
pub some_one : (f k : Builtin) (a r v : Integer) → f ≡ k → r ≡ v → of_one k a ≡ Some v → Some r ≡ of_one f a
some_one f k a r v e h d = ap (λ i. Some i) h ∙ sym d ∙ ap (λ t. of_one t a) (sym e)

pub some_two : (f k : Builtin) (a b r v : Integer) → f ≡ k → r ≡ v → of_two k a b ≡ Some v → Some r ≡ of_two f a b
some_two f k a b r v e h d = ap (λ i. Some i) h ∙ sym d ∙ ap (λ t. of_two t a b) (sym e)

-- one of two values of a type
pub own : (a : Integer) → IsIn a.kind a.number → a ≡ wrapped a.kind a.number
own a h = ap (λ n. record { kind = a.kind; number = n }) (sym (wrap-in a.kind a.number h))

pub first_chosen : (a b : Integer) (t : Bool) → t ≡ false → IsIn a.kind a.number → a ≡ wrapped a.kind (if t then b.number else a.number)
first_chosen a b t e h = own a h ∙ ap (λ s. wrapped a.kind (if s then b.number else a.number)) (sym e)

pub second_chosen : (a b : Integer) (t : Bool) → t ≡ true → a.kind ≡ b.kind → IsIn b.kind b.number → b ≡ wrapped a.kind (if t then b.number else a.number)
second_chosen a b t e k h =
    own b h ∙ ap (λ i. wrapped i b.number) (sym k) ∙ ap (λ s. wrapped a.kind (if s then b.number else a.number)) (sym e)

pub less : (x y : ℤ) → x <ℤ y → int_lt x y ≡ true
less x y h = grind (arith, ints)

pub not_less : (x y : ℤ) → y ≤ℤ x → int_lt x y ≡ false
not_less x y h = grind (arith, ints)

-- the slice's cases
pub at_one : (f : Builtin) (xs : List Integer) (a : Integer) (r : Option Integer) → 1 ≤ length xs → length xs < 2 → a ≡ get_or xs 0 a → r ≡ of_one f a → r ≡ builtin_value f xs
unfolding builtin_value
at_one f [] a r h k e p = absurd (omega arith)
at_one f (x ∷ []) a r h k e p = p ∙ ap (of_one f) e
at_one f (x ∷ y ∷ more) a r h k e p = absurd (omega arith)

pub at_two : (f : Builtin) (xs : List Integer) (a b : Integer) (r : Option Integer) → 2 ≤ length xs → length xs < 3 → a ≡ get_or xs 0 a → b ≡ get_or xs 1 b
    → r ≡ (if is_same a.kind b.kind then of_two f a b else None) → r ≡ builtin_value f xs
unfolding builtin_value
at_two f [] a b r h k e d p = absurd (omega arith)
at_two f (x ∷ []) a b r h k e d p = absurd (omega arith)
at_two f (x ∷ y ∷ []) a b r h k e d p = p ∙ ap₂ (λ (s t : Integer). if is_same s.kind t.kind then of_two f s t else None) e d
at_two f (x ∷ y ∷ z ∷ more) a b r h k e d p = absurd (omega arith)

pub at_other : (f : Builtin) (xs : List Integer) → (length xs < 1) ⊎ (3 ≤ length xs) → None ≡ builtin_value f xs
unfolding builtin_value
at_other f [] h = refl
at_other f (x ∷ []) h = absurd (elim h [ inl l ↦ omega arith | inr m ↦ omega arith ])
at_other f (x ∷ y ∷ []) h = absurd (elim h [ inl l ↦ omega arith | inr m ↦ omega arith ])
at_other f (x ∷ y ∷ z ∷ more) h = refl

pub same_types : (f : Builtin) (a b : Integer) (s t : IntType) (r : Option Integer) → s ≡ a.kind → t ≡ b.kind → true ≡ sameb the_type s t → r ≡ of_two f a b
    → r ≡ (if is_same a.kind b.kind then of_two f a b else None)
same_types f a b s t r p q e h =
    h ∙ ap (λ (c : Bool). if c then of_two f a b else None) (e ∙ ap₂ (sameb the_type) p q ∙ sym (same_type a.kind b.kind))

pub other_types : (f : Builtin) (a b : Integer) (s t : IntType) → s ≡ a.kind → t ≡ b.kind → false ≡ sameb the_type s t
    → None ≡ (if is_same a.kind b.kind then of_two f a b else None)
other_types f a b s t p q e =
    ap (λ (c : Bool). if c then of_two f a b else None) (e ∙ ap₂ (sameb the_type) p q ∙ sym (same_type a.kind b.kind))

-- leading zeros in a narrower width
pub narrower_zeros : (w n : ℕ) → w ≤ 64 → n < 2 ^ w → count_leading_zeros w n + (64 - w) ≡ count_leading_zeros 64 n
narrower_zeros w n h k =
    let p = leading_length w n k in
    leading_unique 64 n (count_leading_zeros w n + (64 - w)) p.0 (sum_is p.0 p.1) p.2 p.3
  where
    sum_is : (m : ℕ) → count_leading_zeros w n + m ≡ w → count_leading_zeros w n + (64 - w) + m ≡ 64
    sum_is m e = omega arith

-- the turned bits stay below 2 to twice the width
power_split : (w s : ℕ) → s < w → 2 ^ s * 2 ^ (w - s) ≡ 2 ^ w
power_split w s h = sym (pow-add 2 s (w - s)) ∙ ap (λ k. 2 ^ k) (omega arith)

pub shifted_below : (w n s : ℕ) → w ≤ 64 → n < 2 ^ w → s < w → n * 2 ^ s + n / 2 ^ (w - s) < 2 ^ 127
shifted_below w n s h k l =
    let low : n / 2 ^ (w - s) < 2 ^ s = (div-lt_iff_lt-mul (pow_pos (w - s))).1 (omega (arith, power_split w s l)) in
    let step : suc n * 2 ^ s ≤ 2 ^ w * 2 ^ s = mul-le-mul_right (2 ^ s) k in
    let both : 2 ^ (w + s) ≡ 2 ^ w * 2 ^ s = pow-add 2 w s in
    let top : 2 ^ (w + s) ≤ 2 ^ 127 = pow_mono {i = w + s} {j = 127} (omega arith) in
    sum_below n (2 ^ s) (n / 2 ^ (w - s)) (2 ^ w * 2 ^ s) (2 ^ (w + s)) low step both top
  where
    sum_below : (n p r m t : ℕ) → r < p → suc n * p ≤ m → t ≡ m → t ≤ 2 ^ 127 → n * p + r < 2 ^ 127
    sum_below n p r m t a b c d = omega arith

pub shifted_fits : (w n s : ℕ) → w ≤ 64 → n < 2 ^ w → s < w → FitsSigned w128 (pos (n * 2 ^ s % 2 ^ 128 + n / 2 ^ (w - s)))
shifted_fits w n s h k l =
    let below = shifted_below w n s h k l in
    let same = mod-le (n * 2 ^ s) (2 ^ 128) in
    record { sfits = omega arith }

-- the same as the code computes it in 128 bits
pub code_turned : (w n s : ℕ) → w ≤ 64 → n < 2 ^ w → s < w → n * 2 ^ s % 2 ^ 128 + n / 2 ^ (w - s) ≡ turned w n s
code_turned w n s h k l =
    let below = shifted_below w n s h k l in
    ap (λ m. m + n / 2 ^ (w - s)) (mod-eq_of_lt (omega arith))

pub rotated : (kind : IntType) (n s b : ℕ) → n < 2 ^ bits kind → s < bits kind → b ≡ bits kind
    → cast_signed w128 (n * 2 ^ s % 2 ^ 128 + n / 2 ^ (b - s)) ≡ pos (turned (bits kind) n s)
rotated kind n s b h l e =
    let below = shifted_below (bits kind) n s (bits_le kind) h l in
    ap (λ v. cast_signed w128 (n * 2 ^ s % 2 ^ 128 + n / 2 ^ (v - s))) e
    ∙ ap (cast_signed w128) (code_turned (bits kind) n s (bits_le kind) h l)
    ∙ to_z_pos w128 (turned (bits kind) n s) below

pub rotated_fits : (kind : IntType) (n s b : ℕ) → n < 2 ^ bits kind → s < bits kind → b ≡ bits kind → FitsSigned w128 (pos (n * 2 ^ s % 2 ^ 128 + n / 2 ^ (b - s)))
rotated_fits kind n s b h l e =
    subst (λ v. FitsSigned w128 (pos (n * 2 ^ s % 2 ^ 128 + n / 2 ^ (v - s)))) (sym e) (shifted_fits (bits kind) n s (bits_le kind) h l)
