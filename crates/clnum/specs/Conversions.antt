-- The integer promotions and the usual arithmetic conversions (C99 6.3.1.1 and 6.3.1.8; OpenCL 1.2, 6.2.6).
use Rattle.std.specs.Prelude.{ℕ, Bool, ◌&&◌, int_le, nat_lt, nat_le, if◌then◌else◌}
use Rattle.clnum.specs.Integer.{is_signed, least, greatest}
use Rattle.clnum.specs.declared.int_type.IntType.{IntType}
use Rattle.clnum.specs.declared.int_type.IntType.TheVariants.{Char, Uchar, Short, Ushort, Int, Uint, Long, Ulong}

-- a type's rank, which it shares with the type of its width and the other sign (C99 6.3.1.1, paragraph 1)
abbrev pub rank : IntType → ℕ
rank Char = 1
rank Uchar = 1
rank Short = 2
rank Ushort = 2
rank Int = 3
rank Uint = 3
rank Long = 4
rank Ulong = 4

-- the unsigned type of a type's width
abbrev pub unsigned_of : IntType → IntType
unsigned_of Char = Uchar
unsigned_of Uchar = Uchar
unsigned_of Short = Ushort
unsigned_of Ushort = Ushort
unsigned_of Int = Uint
unsigned_of Uint = Uint
unsigned_of Long = Ulong
unsigned_of Ulong = Ulong

-- the first type has each number of the second
abbrev pub holds_all : IntType → IntType → Bool
holds_all wide narrow = int_le (least wide) (least narrow) && int_le (greatest narrow) (greatest wide)

-- a type of a greater rank than int stays; another becomes int, or unsigned int where int has not each of its numbers
-- (C99 6.3.1.1, paragraph 2)
unfoldable pub promoted : IntType → IntType
promoted kind = if nat_lt (rank Int) (rank kind) then kind else (if holds_all Int kind then Int else Uint)

-- of two types, the one of greater rank
abbrev pub higher : IntType → IntType → IntType
higher a b = if nat_lt (rank a) (rank b) then b else a

-- the unsigned type where its rank is no less, else the signed one where it has each number of the unsigned one,
-- else the unsigned type of the signed one's width
abbrev pub mixed : IntType → IntType → IntType
mixed unsigned signed = if nat_le (rank signed) (rank unsigned) then unsigned else (if holds_all signed unsigned then signed else unsigned_of signed)

-- the common type of two promoted types
abbrev pub balanced : IntType → IntType → IntType
balanced a b = if is_signed a then (if is_signed b then higher a b else mixed b a) else (if is_signed b then mixed a b else higher a b)

-- the type that an operator on two numbers works in (C99 6.3.1.8)
unfoldable pub common : IntType → IntType → IntType
common a b = balanced (promoted a) (promoted b)
