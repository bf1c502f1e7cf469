use Rattle.clnum.proofs.Ranges.{read_lowest, char_reading, short_reading, int_reading, long_reading, ulong_reading}
use Rattle.clnum.proofs.values.wrapped_number.Goals as goal

pub returns-in-Char : goal.returns-in-Char
returns-in-Char c =
    read_lowest _ _ _ _ _ c.ranges.number (record { sfits = c.from.type_inv }) c.in-Char.is c.lowest_bits-lowest.ensures
    (char_reading c.lowest_bits-lowest.result c.cast_signed.result c.from.result (record { sfits = c.cast_signed.type_inv }) c.cast_signed.ensures c.from.ensures)

pub returns-in-Uchar : goal.returns-in-Uchar
returns-in-Uchar c =
    read_lowest _ _ _ _ _ c.ranges.number (record { sfits = c.from-in-Uchar.type_inv }) c.in-Uchar.is c.lowest_bits-lowest.ensures
    c.from-in-Uchar.ensures

pub returns-in-Short : goal.returns-in-Short
returns-in-Short c =
    read_lowest _ _ _ _ _ c.ranges.number (record { sfits = c.from-in-Short.type_inv }) c.in-Short.is c.lowest_bits-lowest.ensures
    (short_reading c.lowest_bits-lowest.result c.cast_signed-in-Short.result c.from-in-Short.result (record { sfits = c.cast_signed-in-Short.type_inv }) c.cast_signed-in-Short.ensures c.from-in-Short.ensures)

pub returns-in-Ushort : goal.returns-in-Ushort
returns-in-Ushort c =
    read_lowest _ _ _ _ _ c.ranges.number (record { sfits = c.from-in-Ushort.type_inv }) c.in-Ushort.is c.lowest_bits-lowest.ensures
    c.from-in-Ushort.ensures

pub returns-in-Int : goal.returns-in-Int
returns-in-Int c =
    read_lowest _ _ _ _ _ c.ranges.number (record { sfits = c.from-in-Int.type_inv }) c.in-Int.is c.lowest_bits-lowest.ensures
    (int_reading c.lowest_bits-lowest.result c.cast_signed-in-Int.result c.from-in-Int.result (record { sfits = c.cast_signed-in-Int.type_inv }) c.cast_signed-in-Int.ensures c.from-in-Int.ensures)

pub returns-in-Uint : goal.returns-in-Uint
returns-in-Uint c =
    read_lowest _ _ _ _ _ c.ranges.number (record { sfits = c.from-in-Uint.type_inv }) c.in-Uint.is c.lowest_bits-lowest.ensures
    c.from-in-Uint.ensures

pub returns-in-Long : goal.returns-in-Long
returns-in-Long c =
    read_lowest _ _ _ _ _ c.ranges.number (record { sfits = c.from-in-Long.type_inv }) c.in-Long.is c.lowest_bits-lowest.ensures
    (long_reading c.lowest_bits-lowest.result c.cast_signed-in-Long.result c.from-in-Long.result c.lowest_bits-lowest.type_inv (record { sfits = c.cast_signed-in-Long.type_inv }) c.cast_signed-in-Long.ensures c.from-in-Long.ensures)

pub returns-in-Ulong : goal.returns-in-Ulong
returns-in-Ulong c =
    read_lowest _ _ _ _ _ c.ranges.number (record { sfits = c.from-in-Ulong.type_inv }) c.in-Ulong.is c.lowest_bits-lowest.ensures
    (ulong_reading c.lowest_bits-lowest.result c.from-in-Ulong.result c.lowest_bits-lowest.type_inv c.from-in-Ulong.ensures)
