-- The fields of a script's line: names, lists of numbers, and bytes.
use Rattle.std.specs.Prelude.{ℕ, ◌+◌, ◌-◌, ◌*◌, ◌/◌, ◌%◌, ◌<◌, ◌≤◌, Bool, ◌&&◌, ◌||◌, nat_lt, nat_le, IsTrue, if◌then◌else◌, List, [], ◌∷◌, length}
use Rattle.std.specs.List.{list_all, flat_map}
use Rattle.std.specs.Char.{is_ascii_digit}
use Rattle.text_lines.specs.Texts.{is_name_to, numbers_below, IsListBelow}

-- 1 to 63 letters, digits and _, no digit first
abbrev pub is_name : List ℕ → Bool
is_name name = is_name_to 63 name

-- numbers below 2^64, at least one
abbrev pub IsList : List ℕ → Type 0
IsList numbers = IsListBelow 18446744073709551616 numbers

-- the numbers of a list
abbrev pub numbers_of : List ℕ → List ℕ
numbers_of text = numbers_below 18446744073709551616 text

-- 1 to 1,048,576 bytes
abbrev pub AreBytes : List ℕ → Type 0
AreBytes bytes = (0 < length bytes) × (length bytes ≤ 1048576) × IsTrue (list_all (λ b. nat_lt b 256) bytes)

abbrev pub hex_digit : ℕ → ℕ
hex_digit n = if nat_lt n 10 then 48 + n else 87 + n

-- two digits a byte
abbrev pub byte_text : ℕ → List ℕ
byte_text byte = hex_digit (byte / 16) ∷ hex_digit (byte % 16) ∷ []

abbrev pub hex : List ℕ → List ℕ
hex bytes = flat_map byte_text bytes

-- a digit or one of the small letters a to f
unfoldable pub is_hex_digit : ℕ → Bool
is_hex_digit b = is_ascii_digit b || (nat_le 97 b && nat_le b 102)

-- what such a digit stands for, and 0 for another byte
abbrev pub hex_value : ℕ → ℕ
hex_value b = if is_ascii_digit b then b - 48 else (if nat_le 97 b && nat_le b 102 then b - 87 else 0)

-- the bytes that pairs of digits write
abbrev pub bytes_of : List ℕ → List ℕ
bytes_of [] = []
bytes_of (a ∷ []) = []
bytes_of (a ∷ b ∷ digits) = (16 * hex_value a + hex_value b) ∷ bytes_of digits
