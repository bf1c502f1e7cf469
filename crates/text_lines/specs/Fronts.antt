-- Reading a field from the front of bytes, as functions: what each gives is a value and the bytes after it (own).
use Rattle.std.specs.Prelude.{ℕ, ◌+◌, ◌-◌, ℤ, pos, negsuc, Bool, ◌&&◌, nat_lt, nat_le, nat_eq, Option, None, Some, List, [], ◌∷◌, length, take, drop, if◌then◌else◌}
use lib.Pointwise.{pointwise}
use Rattle.std.specs.Char.{is_ascii_digit}
use Rattle.text_lines.specs.Texts.{is_later, is_name_to, is_number, value_of, is_listed, is_list_below}

infixl 10 ◌>>=◌
abbrev pub ◌>>=◌ : {A B : Type 0} → Option A → (A → Option B) → Option B
None >>= f = None
(Some x) >>= f = f x

abbrev pub or_else : {A B : Type 0} → Option A → (A → B) → B → B
or_else None f o = o
or_else (Some x) f o = f x

-- the bytes after a word
unfoldable pub after : List ℕ → List ℕ → Option (List ℕ)
after word bytes = if pointwise nat_eq (take (length word) bytes) word then Some (drop (length word) bytes) else None

-- how many bytes in front pass a test
abbrev pub front_length : (ℕ → Bool) → List ℕ → ℕ
front_length passes [] = 0
front_length passes (b ∷ bs) = if passes b then front_length passes bs + 1 else 0

-- a field in front of a byte, and what is behind that byte
unfoldable pub before : {A : Type 0} → ℕ → Option (A × List ℕ) → Option (A × List ℕ)
before end read = do
  field ← read
  rest ← after (end ∷ []) field.1
  Some (field.0, rest)

-- the letters, digits and _ in front, where they are a name of at most `most` bytes, and the rest
unfoldable pub name_to : ℕ → List ℕ → Option (List ℕ × List ℕ)
name_to most bytes = let n = front_length is_later bytes in if is_name_to most (take n bytes) then Some (take n bytes, drop n bytes) else None

-- the digits in front, where they are a number, and the rest
unfoldable pub number_at : List ℕ → Option (ℕ × List ℕ)
number_at bytes = let n = front_length is_ascii_digit bytes in if is_number (take n bytes) then Some (value_of (take n bytes), drop n bytes) else None

-- the digits and commas in front, where they are a list of numbers below a limit, and the rest
unfoldable pub list_below : ℕ → List ℕ → Option (List ℕ × List ℕ)
list_below limit bytes = let n = front_length is_listed bytes in if is_list_below limit (take n bytes) then Some (take n bytes, drop n bytes) else None

-- a number from 1 to 2^63 in front, as the one below 0, and the rest
unfoldable pub negative_at : List ℕ → Option (ℤ × List ℕ)
negative_at bytes = do
  number ← number_at bytes
  if nat_lt 0 number.0 && nat_le number.0 9223372036854775808 then Some (negsuc (number.0 - 1), number.1) else None

unfoldable pub positive_at : List ℕ → Option (ℤ × List ℕ)
positive_at bytes = do
  number ← number_at bytes
  Some (pos number.0, number.1)

-- a number in front, behind a sign or without one, and the rest
unfoldable pub value_at : List ℕ → Option (ℤ × List ℕ)
value_at bytes = or_else (after (45 ∷ []) bytes) negative_at (positive_at bytes)
