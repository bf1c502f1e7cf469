use Rattle.std.proofs.Common.{◌∙◌, inl, inr, refl, lit<, ◌^◌, ◌%◌, ◌<◌, arith}
use Rattle.std.proofs.Math.Nat.{mod-lt}
use Rattle.clnum.proofs.Ranges.{char_reading, short_reading, int_reading}
use Rattle.register_values.proofs.WordLemmas.{read_word, low_word, all_word}
use Rattle.register_values.proofs.operations.wrapped_word.Goals as goal

pub returns-in-Char : goal.returns-in-Char
returns-in-Char c =
    c.cast_unsigned.ensures ∙ read_word _ _ c.from.result c.args.bits (record { sfits = c.from.type_inv }) c.in-Char.is
    (char_reading c.args.bits c.cast_signed.result c.from.result (record { sfits = c.cast_signed.type_inv }) c.cast_signed.ensures c.from.ensures)

pub returns-in-Short : goal.returns-in-Short
returns-in-Short c =
    c.cast_unsigned-in-Short.ensures ∙ read_word _ _ c.from-in-Short.result c.args.bits (record { sfits = c.from-in-Short.type_inv }) c.in-Short.is
    (short_reading c.args.bits c.cast_signed-in-Short.result c.from-in-Short.result (record { sfits = c.cast_signed-in-Short.type_inv }) c.cast_signed-in-Short.ensures c.from-in-Short.ensures)

pub returns-in-Int : goal.returns-in-Int
returns-in-Int c =
    c.cast_unsigned-in-Int.ensures ∙ read_word _ _ c.from-in-Int.result c.args.bits (record { sfits = c.from-in-Int.type_inv }) c.in-Int.is
    (int_reading c.args.bits c.cast_signed-in-Int.result c.from-in-Int.result (record { sfits = c.cast_signed-in-Int.type_inv }) c.cast_signed-in-Int.ensures c.from-in-Int.ensures)

pub returns-in-Uchar : goal.returns-in-Uchar
returns-in-Uchar c = low_word _ _ c.args.bits (let h : c.args.bits % 2 ^ 8 < 2 ^ 8 = mod-lt c.args.bits (lit< tt) in omega (arith, h)) c.in-Uchar.is refl

pub returns-in-Ushort : goal.returns-in-Ushort
returns-in-Ushort c = low_word _ _ c.args.bits (let h : c.args.bits % 2 ^ 16 < 2 ^ 16 = mod-lt c.args.bits (lit< tt) in omega (arith, h)) c.in-Ushort.is refl

pub returns-in-Uint : goal.returns-in-Uint
returns-in-Uint c = low_word _ _ c.args.bits (let h : c.args.bits % 2 ^ 32 < 2 ^ 32 = mod-lt c.args.bits (lit< tt) in omega (arith, h)) c.in-Uint.is refl

pub returns-in-Long : goal.returns-in-Long
returns-in-Long c =
    elim c.in-Long.is [ inl e ↦ all_word _ _ c.args.bits c.ranges.bits.fits e refl | inr e ↦ all_word _ _ c.args.bits c.ranges.bits.fits e refl ]
