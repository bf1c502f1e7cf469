-- What the built-in functions on integers give (OpenCL 1.2, 6.12.3), which do not promote.
use Rattle.std.specs.Prelude.{ℕ, ◌+◌, ◌-◌, ◌*◌, ◌/◌, ◌^◌, pos, unsigned_abs, int_lt, Bool, not, ◌&&◌, ◌==◌, count_ones, List, [], ◌∷◌, if◌then◌else◌, Option, Some, None}
use Rattle.std.specs.Int.Count.{count_leading_zeros}
use Rattle.clnum.specs.Integer.{Integer, bits, is_signed, residue, bits_of}
use Rattle.clnum.specs.Conversions.{unsigned_of}
use Rattle.clnum.specs.Operations.{wrapped}
use Rattle.clnum.specs.declared.int_type.IntType.{IntType}
use Rattle.clnum.specs.declared.operators.Builtin.{Builtin}
use Rattle.clnum.specs.declared.operators.Builtin.TheVariants.{Min, Max, Abs, Clz, Popcount, Rotate}

-- the functions of one number: its size, its leading zero bits and its one bits
abbrev pub of_one : Builtin → Integer → Option Integer
of_one Min a = None
of_one Max a = None
of_one Abs a = Some (wrapped (unsigned_of a.kind) (pos (unsigned_abs a.number)))
of_one Clz a = Some (wrapped a.kind (pos (count_leading_zeros (bits a.kind) (bits_of a.kind a.number))))
of_one Popcount a = Some (wrapped a.kind (pos (count_ones (bits_of a.kind a.number))))
of_one Rotate a = None

-- the bits of n turned left by a count below the width: those that leave above come in below
abbrev pub turned : ℕ → ℕ → ℕ → ℕ
turned width n count = n * 2 ^ count + n / 2 ^ (width - count)

-- the functions of two numbers of one type
abbrev pub of_two : Builtin → Integer → Integer → Option Integer
of_two Min a b = Some (wrapped a.kind (if int_lt b.number a.number then b.number else a.number))
of_two Max a b = Some (wrapped a.kind (if int_lt a.number b.number then b.number else a.number))
of_two Abs a b = None
of_two Clz a b = None
of_two Popcount a b = None
of_two Rotate a b = Some (wrapped a.kind (pos (turned (bits a.kind) (bits_of a.kind a.number) (residue (bits a.kind) b.number))))

-- two types are one
abbrev pub is_same : IntType → IntType → Bool
is_same a b = (bits a == bits b) && (if is_signed a then is_signed b else not (is_signed b))

-- a function's value at its arguments, or none where they do not fit it
unfoldable pub builtin_value : Builtin → List Integer → Option Integer
builtin_value function [] = None
builtin_value function (a ∷ []) = of_one function a
builtin_value function (a ∷ b ∷ []) = if is_same a.kind b.kind then of_two function a b else None
builtin_value function (a ∷ b ∷ c ∷ more) = None
