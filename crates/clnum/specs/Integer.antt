-- The integer types of OpenCL C and their values (OpenCL 1.2, 6.1.1; conversions: 6.2.3 and C99 6.3.1.3).
use Rattle.std.specs.Prelude.{ℕ, ◌-◌, ◌%◌, ◌^◌, ℤ, pos, negsuc, ◌-ℤ◌, neg_ℤ, ◌≤ℤ◌, ◌<ℤ◌, Bool, true, false, nat_lt, if◌then◌else◌, List, codes}
use Rattle.clnum.specs.declared.int_type.IntType.{IntType}
use Rattle.clnum.specs.declared.int_type.IntType.TheVariants.{Char, Uchar, Short, Ushort, Int, Uint, Long, Ulong}

-- a number of an integer type
pub record Integer : Type 0 where
  pub kind : IntType
  pub number : ℤ

-- how many bits a type has
abbrev pub bits : IntType → ℕ
bits Char = 8
bits Uchar = 8
bits Short = 16
bits Ushort = 16
bits Int = 32
bits Uint = 32
bits Long = 64
bits Ulong = 64

abbrev pub is_signed : IntType → Bool
is_signed Char = true
is_signed Uchar = false
is_signed Short = true
is_signed Ushort = false
is_signed Int = true
is_signed Uint = false
is_signed Long = true
is_signed Ulong = false

-- the name of a type
abbrev pub type_word : IntType → List ℕ
type_word Char = codes "char"
type_word Uchar = codes "uchar"
type_word Short = codes "short"
type_word Ushort = codes "ushort"
type_word Int = codes "int"
type_word Uint = codes "uint"
type_word Long = codes "long"
type_word Ulong = codes "ulong"

-- the types in their order, as their numbers: by the width, and the signed one first (own)
abbrev pub type_number : IntType → ℕ
type_number Char = 0
type_number Uchar = 1
type_number Short = 2
type_number Ushort = 3
type_number Int = 4
type_number Uint = 5
type_number Long = 6
type_number Ulong = 7

-- a number as a count, 0 where it is negative
abbrev pub natural : ℤ → ℕ
natural (pos n) = n
natural (negsuc n) = 0

-- the least and the greatest number of a type
abbrev pub least : IntType → ℤ
least kind = if is_signed kind then pos 0 -ℤ pos (2 ^ (bits kind - 1)) else pos 0

abbrev pub greatest : IntType → ℤ
greatest kind = if is_signed kind then pos (2 ^ (bits kind - 1)) -ℤ pos 1 else pos (2 ^ bits kind) -ℤ pos 1

-- a number is in a type's range
pub record IsIn (kind : IntType) (number : ℤ) : Type 0 where
  pub from : least kind ≤ℤ number
  pub to : number ≤ℤ greatest kind

-- a number is in the range of one of the types
pub record IsWithin (number : ℤ) : Type 0 where
  pub at_least : neg_ℤ (pos (2 ^ 63)) ≤ℤ number
  pub below : number <ℤ pos (2 ^ 64)

-- the number from 0 to m - 1 that differs from z by a multiple of m
abbrev pub residue : ℕ → ℤ → ℕ
residue m (pos n) = n % m
residue m (negsuc n) = m - 1 - n % m

-- bits read as a number of a type: with a sign, those from half on stand for negative numbers
abbrev pub read_as : IntType → ℕ → ℤ
read_as kind n = if is_signed kind then (if nat_lt n (2 ^ (bits kind - 1)) then pos n else pos n -ℤ pos (2 ^ bits kind)) else pos n

-- the bits of a number in a type
unfoldable pub bits_of : IntType → ℤ → ℕ
bits_of kind number = residue (2 ^ bits kind) number

-- the number of the type's range that differs from a number by a multiple of 2 to the width
unfoldable pub wrap : IntType → ℤ → ℤ
wrap kind number = read_as kind (residue (2 ^ bits kind) number)

-- a value in another type
unfoldable pub converted : Integer → IntType → Integer
converted value kind = record { kind = kind; number = wrap kind value.number }
