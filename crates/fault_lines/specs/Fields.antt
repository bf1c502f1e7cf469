-- The fields of a fault's line: names, numbers and the turns of loops.
use Rattle.std.specs.Prelude.{ℕ, ◌<◌, ◌≤◌, ◌^◌, suc, ℤ, pos, negsuc, Bool, nat_lt, nat_le, Option, None, Some, List, []}
use Rattle.text_lines.specs.Texts.{is_name_to, is_number_below, number_below, numbers_below}

-- 1 to 65,536 letters, digits and _, no digit first: as many as a source has bytes (C99 6.4.2.1; the limit own)
abbrev pub is_name : List ℕ → Bool
is_name name = is_name_to 65536 name

-- digits of a number below 2^32, without leading zeros
abbrev pub is_turn : List ℕ → Bool
is_turn digits = is_number_below 4294967296 digits

-- the number below 2^32 that digits write, and 0 where they write none
abbrev pub turn_of : List ℕ → ℕ
turn_of digits = number_below 4294967296 digits

-- the turns that are listed, none where there is no list
abbrev pub turns_of : Option (List ℕ) → List ℕ
turns_of None = []
turns_of (Some text) = numbers_below 4294967296 text

-- from -2^63 to 2^63 - 1
abbrev pub IsElement : ℤ → Type 0
IsElement (pos n) = n < 2 ^ 63
IsElement (negsuc n) = suc n ≤ 2 ^ 63

abbrev pub is_element : ℤ → Bool
is_element (pos n) = nat_lt n 9223372036854775808
is_element (negsuc n) = nat_le (suc n) 9223372036854775808
