-- How a number is written, and which type it has (C99 6.4.4.1; no type is wider than 64 bits).
use Rattle.std.specs.Prelude.{ℕ, ◌+◌, ◌-◌, ◌*◌, ◌^◌, Bool, true, false, ◌||◌, ◌&&◌, not, ◌==◌, nat_lt, nat_eq, pos, List, [], ◌∷◌, slice_index, fold, codes, Option, None, Some, if◌then◌else◌}
use Rattle.std.specs.List.{prefix_len, starts_with}
use Rattle.std.specs.Char.{is_digit, digit_value}
use Rattle.clnum.specs.Integer.{Integer, bits, is_signed}
use Rattle.clnum.specs.declared.int_type.IntType.{IntType}
use Rattle.clnum.specs.declared.int_type.IntType.TheVariants.{Int, Uint, Long, Ulong}
use Rattle.clsyntax_lex.specs.declared.numbers.Base.{Base}
use Rattle.clsyntax_lex.specs.declared.numbers.Base.TheVariants.{Decimal, Octal, Hexadecimal}
use Rattle.clsyntax_lex.specs.declared.numbers.Suffix.{Suffix}

abbrev pub radix : Base → ℕ
radix Decimal = 10
radix Octal = 8
radix Hexadecimal = 16

-- how many bytes stand before the digits: the `0` of an octal number is one of them
abbrev pub digits_at : Base → ℕ
digits_at Decimal = 0
digits_at Octal = 0
digits_at Hexadecimal = 2

-- `0x` or `0X` with a digit behind it begins a hexadecimal number, any other `0` an octal one
unfoldable pub base_of : List ℕ → Base
base_of bytes =
    if slice_index bytes 0 == 48
    then (if (slice_index bytes 1 == 120 || slice_index bytes 1 == 88) && is_digit (slice_index bytes 2) 16 then Hexadecimal else Octal)
    else Decimal

-- how many digits stand in front
abbrev pub digit_count : Base → List ℕ → ℕ
digit_count base bytes = prefix_len (λ b. is_digit b (radix base)) bytes

-- the number that digits stand for
abbrev pub value_of : ℕ → List ℕ → ℕ
value_of radix digits = fold (λ n digit. n * radix + digit_value digit) 0 digits

abbrev pub suffix : (is_unsigned is_long : Bool) (len : ℕ) → Suffix
suffix is_unsigned is_long len = record { is_unsigned = is_unsigned; is_long = is_long; len = len }

abbrev pub begins_with : List ℕ → List ℕ → Bool
begins_with text bytes = starts_with nat_eq bytes text

-- the suffix in front
unfoldable pub suffix_of : List ℕ → Suffix
suffix_of bytes =
    if begins_with (codes "ul") bytes || begins_with (codes "UL") bytes then suffix true true 2
    else (if begins_with (codes "u") bytes || begins_with (codes "U") bytes then suffix true false 1
    else (if begins_with (codes "l") bytes || begins_with (codes "L") bytes then suffix false true 1
    else suffix false false 0))

abbrev pub is_decimal : Base → Bool
is_decimal Decimal = true
is_decimal Octal = false
is_decimal Hexadecimal = false

-- a type that a number may have: with `u` an unsigned one, without it a decimal number a signed one, with `l` a long
-- one
abbrev pub may_have : Base → Suffix → IntType → Bool
may_have base suffix kind =
    (if suffix.is_unsigned then not (is_signed kind) else (is_signed kind || not (is_decimal base)))
    && (not suffix.is_long || (bits kind == 64))

-- the least number that is too large for a type
abbrev pub bound : IntType → ℕ
bound kind = if is_signed kind then 2 ^ (bits kind - 1) else 2 ^ bits kind

-- the number in the first of the types that it may have and that holds it
abbrev pub first_holding : Base → Suffix → List IntType → ℕ → Option Integer
first_holding base suffix [] n = None
first_holding base suffix (kind ∷ kinds) n =
    if may_have base suffix kind && nat_lt n (bound kind) then Some (record { kind = kind; number = pos n })
    else first_holding base suffix kinds n

unfoldable pub typed : Base → Suffix → ℕ → Option Integer
typed base suffix n = first_holding base suffix (Int ∷ Uint ∷ Long ∷ Ulong ∷ []) n
