-- Numbers with their digits, suffixes and types.
use Rattle.std.proofs.Common.{◌≡◌, ℕ, ◌<◌, ◌≤◌, ◌+◌, ◌-◌, ◌^◌, Bool, true, false, ◌||◌, ◌&&◌, List, [], ◌∷◌, ◌++◌, length, drop, get_or, refl, arith, sym, cond, ap, subst, Option, Some, nat_eq, nat_lt, min, pos, inl, inr, ◌⊎◌, lit≤, length-append}
use Rattle.std.specs.Prelude.{codes}
use Rattle.std.specs.List.{prefix_len}
use Rattle.std.specs.Char.{is_ascii_digit, is_digit}
use Rattle.std.proofs.lemmas.Bool.Decides.{Decides-eqb, nat_tests}
use Rattle.std.proofs.lemmas.Slice.Eq.{starts_is}
use borrow.Author.Tests.{ltb-true, ltb-false, lt-ltb, le-ltb, eqb-true}
use Rattle.clsyntax_lex.specs.declared.numbers.Base.TheVariants.{Decimal, Octal, Hexadecimal}
use Rattle.std.proofs.lemmas.Int.{ints}
use Rattle.clnum.specs.Integer.{Integer, IsIn}
use Rattle.clnum.specs.declared.int_type.IntType.{IntType}
use Rattle.clnum.specs.declared.int_type.IntType.TheVariants.{Char, Uchar, Short, Ushort, Int, Uint, Long, Ulong}
use Rattle.clsyntax_lex.specs.declared.numbers.Base.{Base}
use Rattle.clsyntax_lex.specs.declared.numbers.Suffix.{Suffix}
use Rattle.clsyntax_lex.specs.Numbers as numbers

-- a number below a type's bound lies in its range
pub bound-IsIn : (kind : IntType) (n : ℕ) → n < numbers.bound kind → IsIn kind (pos n)
bound-IsIn Char n below = record { from = omega (arith, ints); to = omega (arith, ints) }
bound-IsIn Uchar n below = record { from = omega (arith, ints); to = omega (arith, ints) }
bound-IsIn Short n below = record { from = omega (arith, ints); to = omega (arith, ints) }
bound-IsIn Ushort n below = record { from = omega (arith, ints); to = omega (arith, ints) }
bound-IsIn Int n below = record { from = omega (arith, ints); to = omega (arith, ints) }
bound-IsIn Uint n below = record { from = omega (arith, ints); to = omega (arith, ints) }
bound-IsIn Long n below = record { from = omega (arith, ints); to = omega (arith, ints) }
bound-IsIn Ulong n below = record { from = omega (arith, ints); to = omega (arith, ints) }

-- a number too large to be counted is too large for each of the types
bounded : (kind : IntType) → numbers.bound kind ≤ 2 ^ 64
bounded Char = lit≤ tt
bounded Uchar = lit≤ tt
bounded Short = lit≤ tt
bounded Ushort = lit≤ tt
bounded Int = lit≤ tt
bounded Uint = lit≤ tt
bounded Long = lit≤ tt
bounded Ulong = lit≤ tt

below-min : (n bound : ℕ) → bound ≤ 2 ^ 64 → nat_lt (min n (2 ^ 128 - 1)) bound ≡ nat_lt n bound
below-min n bound small = by (nat_lt n bound) refl
  where
    by : (b : Bool) → nat_lt n bound ≡ b → nat_lt (min n (2 ^ 128 - 1)) bound ≡ b
    by true e = lt-ltb (min n (2 ^ 128 - 1)) bound (omega (arith, ltb-true n bound e))
    by false e = le-ltb (min n (2 ^ 128 - 1)) bound (omega (arith, ltb-false n bound e))

abbrev some_of : IntType → ℕ → Option Integer
some_of kind n = Some (record { kind = kind; number = pos n })

first_holding-min : (base : Base) (suffix : Suffix) (kinds : List IntType) (n : ℕ) → numbers.first_holding base suffix kinds (min n (2 ^ 128 - 1)) ≡ numbers.first_holding base suffix kinds n
first_holding-min base suffix [] n = refl
first_holding-min base suffix (kind ∷ kinds) n =
    subst (λ b. cond (numbers.may_have base suffix kind && b) (some_of kind (min n (2 ^ 128 - 1))) (numbers.first_holding base suffix kinds (min n (2 ^ 128 - 1)))
    ≡ cond (numbers.may_have base suffix kind && nat_lt n (numbers.bound kind)) (some_of kind n) (numbers.first_holding base suffix kinds n))
    (sym (below-min n (numbers.bound kind) (bounded kind)))
    (by (numbers.may_have base suffix kind) (nat_lt n (numbers.bound kind)) (λ below. omega (arith, ltb-true n (numbers.bound kind) below, bounded kind)) (first_holding-min base suffix kinds n))
  where
    by : (may below : Bool) → (below ≡ true → min n (2 ^ 128 - 1) ≡ n)
        → numbers.first_holding base suffix kinds (min n (2 ^ 128 - 1)) ≡ numbers.first_holding base suffix kinds n
        → cond (may && below) (some_of kind (min n (2 ^ 128 - 1))) (numbers.first_holding base suffix kinds (min n (2 ^ 128 - 1)))
        ≡ cond (may && below) (some_of kind n) (numbers.first_holding base suffix kinds n)
    by true true small others = ap (some_of kind) (small refl)
    by true false small others = others
    by false below small others = others

pub typed-min : (base : Base) (suffix : Suffix) (n : ℕ) → numbers.typed base suffix (min n (2 ^ 128 - 1)) ≡ numbers.typed base suffix n
unfolding numbers.typed
typed-min base suffix n = first_holding-min base suffix (Int ∷ Uint ∷ Long ∷ Ulong ∷ []) n

pub begins-length : (text bytes : List ℕ) → numbers.begins_with text bytes ≡ true → length text ≤ length bytes
begins-length text bytes e =
    let same : bytes ≡ text ++ drop (length text) bytes = (starts_is Decides-eqb bytes text (numbers.begins_with text bytes) refl).0 e in
    omega (arith, ap length same, length-append text (drop (length text) bytes))

pub either : (a b : Bool) → a || b ≡ true → (a ≡ true) ⊎ (b ≡ true)
either true b e = inl refl
either false b e = inr e

either-length : (a b bytes : List ℕ) (n : ℕ) → n ≤ length a → n ≤ length b → numbers.begins_with a bytes || numbers.begins_with b bytes ≡ true → n ≤ length bytes
either-length a b bytes n long_a long_b e = elim (either (numbers.begins_with a bytes) (numbers.begins_with b bytes) e) [
  | inl here ↦ omega (arith, begins-length a bytes here)
  | inr here ↦ omega (arith, begins-length b bytes here)
]

pub suffix_of-fits : (bytes : List ℕ) → (numbers.suffix_of bytes).len ≤ length bytes
unfolding numbers.suffix_of
suffix_of-fits bytes = by_both (numbers.begins_with (codes "ul") bytes || numbers.begins_with (codes "UL") bytes) refl
  where
    by_long : (b : Bool) → (numbers.begins_with (codes "l") bytes || numbers.begins_with (codes "L") bytes) ≡ b
        → (cond b (numbers.suffix false true 1) (numbers.suffix false false 0)).len ≤ length bytes
    by_long true e = either-length (codes "l") (codes "L") bytes 1 (omega arith) (omega arith) e
    by_long false e = omega arith

    by_unsigned : (b : Bool) → (numbers.begins_with (codes "u") bytes || numbers.begins_with (codes "U") bytes) ≡ b
        → (cond b (numbers.suffix true false 1) (cond (numbers.begins_with (codes "l") bytes || numbers.begins_with (codes "L") bytes) (numbers.suffix false true 1) (numbers.suffix false false 0))).len ≤ length bytes
    by_unsigned true e = either-length (codes "u") (codes "U") bytes 1 (omega arith) (omega arith) e
    by_unsigned false e = by_long (numbers.begins_with (codes "l") bytes || numbers.begins_with (codes "L") bytes) refl

    by_both : (b : Bool) → (numbers.begins_with (codes "ul") bytes || numbers.begins_with (codes "UL") bytes) ≡ b
        → (cond b (numbers.suffix true true 2) (cond (numbers.begins_with (codes "u") bytes || numbers.begins_with (codes "U") bytes) (numbers.suffix true false 1)
        (cond (numbers.begins_with (codes "l") bytes || numbers.begins_with (codes "L") bytes) (numbers.suffix false true 1) (numbers.suffix false false 0)))).len ≤ length bytes
    by_both true e = either-length (codes "ul") (codes "UL") bytes 2 (omega arith) (omega arith) e
    by_both false e = by_unsigned (numbers.begins_with (codes "u") bytes || numbers.begins_with (codes "U") bytes) refl

-- the longest front that passes isn't empty where the first byte passes
pub first_passes : (p : ℕ → Bool) (xs : List ℕ) → 0 < length xs → p (get_or xs 0 0) ≡ true → 0 < prefix_len p xs
first_passes p [] nonempty passes = absurd (omega arith)
first_passes p (x ∷ xs) nonempty passes = subst (λ b. 0 < cond b (1 + prefix_len p xs) 0) (sym passes) (omega arith)

pub decimal_digit : (b : ℕ) → is_ascii_digit b ≡ true → is_digit b 10 ≡ true
decimal_digit b e = grind (arith, nat_tests)

-- what stands before the digits, and that there is a digit
pub record HasDigits (base : Base) (bytes : List ℕ) : Type 0 where
  pub within : numbers.digits_at base ≤ length bytes
  pub some : 0 < numbers.digits_at base + numbers.digit_count base (drop (numbers.digits_at base) bytes)

third_digit : (bytes : List ℕ) → is_digit (get_or bytes 2 0) 16 ≡ true → 2 ≤ length bytes
third_digit [] e = cc
third_digit (a ∷ []) e = cc
third_digit (a ∷ b ∷ bytes) e = omega arith

pub base_of-HasDigits : (bytes : List ℕ) → 0 < length bytes → is_ascii_digit (get_or bytes 0 0) ≡ true → HasDigits (numbers.base_of bytes) bytes
unfolding numbers.base_of
base_of-HasDigits bytes nonempty digit = by (nat_eq (get_or bytes 0 0) 48) refl
  where
    hexadecimal : is_digit (get_or bytes 2 0) 16 ≡ true → HasDigits Hexadecimal bytes
    hexadecimal third = record { within = third_digit bytes third; some = omega arith }

    octal : nat_eq (get_or bytes 0 0) 48 ≡ true → HasDigits Octal bytes
    octal is_zero =
        let zero_digit : is_digit (get_or bytes 0 0) 8 ≡ true = ap (λ b. is_digit b 8) (eqb-true (get_or bytes 0 0) 48 is_zero) in
        let some : 0 < prefix_len (λ b. is_digit b 8) bytes = first_passes (λ b. is_digit b 8) bytes nonempty zero_digit in
        record { within = omega arith; some = omega arith }

    decimal : HasDigits Decimal bytes
    decimal =
        let some : 0 < prefix_len (λ b. is_digit b 10) bytes = first_passes (λ b. is_digit b 10) bytes nonempty (decimal_digit (get_or bytes 0 0) digit) in
        record { within = omega arith; some = omega arith }

    by_mark : (mark third : Bool) → is_digit (get_or bytes 2 0) 16 ≡ third → nat_eq (get_or bytes 0 0) 48 ≡ true → HasDigits (cond (mark && third) Hexadecimal Octal) bytes
    by_mark true true e z = hexadecimal e
    by_mark true false e z = octal z
    by_mark false third e z = octal z

    by : (b : Bool) → nat_eq (get_or bytes 0 0) 48 ≡ b
        → HasDigits (cond b (cond ((nat_eq (get_or bytes 1 0) 120 || nat_eq (get_or bytes 1 0) 88) && is_digit (get_or bytes 2 0) 16) Hexadecimal Octal) Decimal) bytes
    by true e = by_mark (nat_eq (get_or bytes 1 0) 120 || nat_eq (get_or bytes 1 0) 88) (is_digit (get_or bytes 2 0) 16) refl e
    by false e = decimal
