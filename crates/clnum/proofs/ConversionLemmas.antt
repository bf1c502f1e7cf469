-- The conversions at each type.
use Rattle.std.proofs.Common.{◌≡◌, refl, sym, ◌∙◌, ap₂}
use Rattle.clnum.specs.Conversions.{promoted, common}
use Rattle.clnum.specs.declared.int_type.IntType.{IntType}
use Rattle.clnum.specs.declared.int_type.IntType.TheVariants.{Char, Uchar, Short, Ushort, Int, Uint, Long, Ulong}

-- the later of two promoted types in the order int, uint, long, ulong
abbrev pub later : IntType → IntType → IntType
later Ulong right = Ulong
later Long Ulong = Ulong
later Long right = Long
later Uint Ulong = Ulong
later Uint Long = Long
later Uint right = Uint
later left right = right

pub common-later : (a b : IntType) → common a b ≡ later (promoted a) (promoted b)
unfolding common promoted
common-later Char Char = refl
common-later Char Uchar = refl
common-later Char Short = refl
common-later Char Ushort = refl
common-later Char Int = refl
common-later Char Uint = refl
common-later Char Long = refl
common-later Char Ulong = refl
common-later Uchar Char = refl
common-later Uchar Uchar = refl
common-later Uchar Short = refl
common-later Uchar Ushort = refl
common-later Uchar Int = refl
common-later Uchar Uint = refl
common-later Uchar Long = refl
common-later Uchar Ulong = refl
common-later Short Char = refl
common-later Short Uchar = refl
common-later Short Short = refl
common-later Short Ushort = refl
common-later Short Int = refl
common-later Short Uint = refl
common-later Short Long = refl
common-later Short Ulong = refl
common-later Ushort Char = refl
common-later Ushort Uchar = refl
common-later Ushort Short = refl
common-later Ushort Ushort = refl
common-later Ushort Int = refl
common-later Ushort Uint = refl
common-later Ushort Long = refl
common-later Ushort Ulong = refl
common-later Int Char = refl
common-later Int Uchar = refl
common-later Int Short = refl
common-later Int Ushort = refl
common-later Int Int = refl
common-later Int Uint = refl
common-later Int Long = refl
common-later Int Ulong = refl
common-later Uint Char = refl
common-later Uint Uchar = refl
common-later Uint Short = refl
common-later Uint Ushort = refl
common-later Uint Int = refl
common-later Uint Uint = refl
common-later Uint Long = refl
common-later Uint Ulong = refl
common-later Long Char = refl
common-later Long Uchar = refl
common-later Long Short = refl
common-later Long Ushort = refl
common-later Long Int = refl
common-later Long Uint = refl
common-later Long Long = refl
common-later Long Ulong = refl
common-later Ulong Char = refl
common-later Ulong Uchar = refl
common-later Ulong Short = refl
common-later Ulong Ushort = refl
common-later Ulong Int = refl
common-later Ulong Uint = refl
common-later Ulong Long = refl
common-later Ulong Ulong = refl

-- what a match on the two promoted types gives
pub later_is : (a b left right kind : IntType) → left ≡ promoted a → right ≡ promoted b → later left right ≡ kind → kind ≡ common a b
later_is a b left right kind p q e = sym (common-later a b ∙ sym (ap₂ later p q) ∙ e)

pub later-long : (right : IntType) → (right ≡ Ulong → ⊥) → later Long right ≡ Long
later-long Char h = refl
later-long Uchar h = refl
later-long Short h = refl
later-long Ushort h = refl
later-long Int h = refl
later-long Uint h = refl
later-long Long h = refl
later-long Ulong h = absurd (h refl)

pub later-uint : (right : IntType) → (right ≡ Ulong → ⊥) → (right ≡ Long → ⊥) → later Uint right ≡ Uint
later-uint Char h k = refl
later-uint Uchar h k = refl
later-uint Short h k = refl
later-uint Ushort h k = refl
later-uint Int h k = refl
later-uint Uint h k = refl
later-uint Long h k = absurd (k refl)
later-uint Ulong h k = absurd (h refl)

pub later-other : (left right : IntType) → (left ≡ Ulong → ⊥) → (left ≡ Long → ⊥) → (left ≡ Uint → ⊥) → later left right ≡ right
later-other Char right h k l = refl
later-other Uchar right h k l = refl
later-other Short right h k l = refl
later-other Ushort right h k l = refl
later-other Int right h k l = refl
later-other Uint right h k l = absurd (l refl)
later-other Long right h k l = absurd (k refl)
later-other Ulong right h k l = absurd (h refl)
