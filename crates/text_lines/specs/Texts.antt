-- What the fields of a line are: names, numbers, lists of numbers and signed numbers (own).
use Rattle.std.specs.Prelude.{ℕ, ◌+◌, ◌-◌, ◌*◌, ◌==◌, ◌<◌, ◌≤◌, ◌^◌, suc, ℤ, pos, negsuc, Bool, false, not, ◌&&◌, ◌||◌, nat_lt, nat_le, IsTrue, if◌then◌else◌, List, [], ◌∷◌, map, length, slice_index, decimal}
use Rattle.std.specs.List.{list_all, join_with_byte, slice_split}
use Rattle.std.specs.Char.{is_ascii_digit}

-- a letter or _
abbrev pub is_first : ℕ → Bool
is_first b = (nat_le 65 b && nat_le b 90) || (nat_le 97 b && nat_le b 122) || (b == 95)

-- a letter, a digit or _
unfoldable pub is_later : ℕ → Bool
is_later b = is_first b || (nat_le 48 b && nat_le b 57)

-- 1 to `most` letters, digits and _, no digit first (C99 6.4.2.1; the limit own)
abbrev pub is_name_to : ℕ → List ℕ → Bool
is_name_to most [] = false
is_name_to most (b ∷ bs) = is_first b && nat_lt (length bs) most && list_all is_later bs

-- the number that digits write, behind one that is read already
abbrev pub value_behind : ℕ → List ℕ → ℕ
value_behind n [] = n
value_behind n (b ∷ bs) = value_behind (10 * n + (b - 48)) bs

abbrev pub value_of : List ℕ → ℕ
value_of digits = value_behind 0 digits

-- digits of a number below 2^64, without leading zeros
abbrev pub is_number : List ℕ → Bool
is_number digits = nat_lt 0 (length digits) && (not (slice_index digits 0 == 48) || (length digits == 1)) && nat_lt (value_of digits) 18446744073709551616

-- those of a number below a limit, too
abbrev pub is_number_below : ℕ → List ℕ → Bool
is_number_below limit digits = is_number digits && nat_lt (value_of digits) limit

-- the number below the limit that digits write, and 0 where they write none
abbrev pub number_below : ℕ → List ℕ → ℕ
number_below limit digits = if is_number_below limit digits then value_of digits else 0

-- a digit or a comma
unfoldable pub is_listed : ℕ → Bool
is_listed b = is_ascii_digit b || (b == 44)

-- the parts of a text between its commas
abbrev pub between_commas : List ℕ → List (List ℕ)
between_commas text = slice_split (λ b. b == 44) text

-- numbers below a limit with a comma between each two
abbrev pub is_list_below : ℕ → List ℕ → Bool
is_list_below limit text = list_all (is_number_below limit) (between_commas text)

-- the numbers that are listed
abbrev pub numbers_below : ℕ → List ℕ → List ℕ
numbers_below limit text = map (number_below limit) (between_commas text)

-- numbers below a limit, at least one
abbrev pub IsListBelow : ℕ → List ℕ → Type 0
IsListBelow limit numbers = (0 < length numbers) × IsTrue (list_all (λ n. nat_lt n limit) numbers)

-- the text of a list
abbrev pub list_text : List ℕ → List ℕ
list_text numbers = join_with_byte 44 (map decimal numbers)

-- from -2^63 to 2^64 - 1
abbrev pub IsValue : ℤ → Type 0
IsValue (pos n) = n < 2 ^ 64
IsValue (negsuc n) = suc n ≤ 2 ^ 63
