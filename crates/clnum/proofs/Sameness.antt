-- What `==` tells of two types: whether they are one.
use Rattle.std.proofs.Common.{◌≡◌, refl}
use denote.Enum.Bare.{sameb}
use Rattle.clnum.specs.contracts.int_type.IntType.{the_type}
use Rattle.clnum.specs.Builtins.{is_same}
use Rattle.clnum.specs.declared.int_type.IntType.{IntType}
use Rattle.clnum.specs.declared.int_type.IntType.TheVariants.{Char, Uchar, Short, Ushort, Int, Uint, Long, Ulong}

pub same_type : (a b : IntType) → is_same a b ≡ sameb the_type a b
same_type Char Char = refl
same_type Char Uchar = refl
same_type Char Short = refl
same_type Char Ushort = refl
same_type Char Int = refl
same_type Char Uint = refl
same_type Char Long = refl
same_type Char Ulong = refl
same_type Uchar Char = refl
same_type Uchar Uchar = refl
same_type Uchar Short = refl
same_type Uchar Ushort = refl
same_type Uchar Int = refl
same_type Uchar Uint = refl
same_type Uchar Long = refl
same_type Uchar Ulong = refl
same_type Short Char = refl
same_type Short Uchar = refl
same_type Short Short = refl
same_type Short Ushort = refl
same_type Short Int = refl
same_type Short Uint = refl
same_type Short Long = refl
same_type Short Ulong = refl
same_type Ushort Char = refl
same_type Ushort Uchar = refl
same_type Ushort Short = refl
same_type Ushort Ushort = refl
same_type Ushort Int = refl
same_type Ushort Uint = refl
same_type Ushort Long = refl
same_type Ushort Ulong = refl
same_type Int Char = refl
same_type Int Uchar = refl
same_type Int Short = refl
same_type Int Ushort = refl
same_type Int Int = refl
same_type Int Uint = refl
same_type Int Long = refl
same_type Int Ulong = refl
same_type Uint Char = refl
same_type Uint Uchar = refl
same_type Uint Short = refl
same_type Uint Ushort = refl
same_type Uint Int = refl
same_type Uint Uint = refl
same_type Uint Long = refl
same_type Uint Ulong = refl
same_type Long Char = refl
same_type Long Uchar = refl
same_type Long Short = refl
same_type Long Ushort = refl
same_type Long Int = refl
same_type Long Uint = refl
same_type Long Long = refl
same_type Long Ulong = refl
same_type Ulong Char = refl
same_type Ulong Uchar = refl
same_type Ulong Short = refl
same_type Ulong Ushort = refl
same_type Ulong Int = refl
same_type Ulong Uint = refl
same_type Ulong Long = refl
same_type Ulong Ulong = refl
