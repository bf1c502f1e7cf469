-- The new numbers of registers (own).
use Rattle.std.specs.Prelude.{◌≡◌, ℕ, suc, ◌^◌, ◌<◌, ◌≤◌, ◌⊎◌, IsTrue, is_some, Option, None, Some, List, [], ◌∷◌, length, slice_get}
use Rattle.regcode.specs.Machine.{entry_at}
use Rattle.regcode.specs.declared.tables.Register.{Register}

-- a number, or where there is none the greatest of 32 bits, which no register is given (own)
abbrev pub number_or_greatest : Option ℕ → ℕ
number_or_greatest None = 4294967295
number_or_greatest (Some number) = number

-- the new number of a register, by those that are given (own)
abbrev pub number_of : List (Option ℕ) → ℕ → ℕ
number_of numbers register = number_or_greatest (entry_at None numbers register)

-- a register of which no number is known (own)
abbrev pub no_number : Register → Option ℕ
no_number register = None

-- how many registers have a number (own)
abbrev pub how_many : List (Option ℕ) → ℕ
how_many [] = 0
how_many (None ∷ numbers) = how_many numbers
how_many (Some number ∷ numbers) = suc (how_many numbers)

-- Numbers of the registers of an old table are places in a new one: there are as many as it has entries, no two
-- registers have one number, and the entry there is the register's (own).
pub record IsNumbering (old new : List Register) (numbers : List (Option ℕ)) : Type 0 where
  pub whole : length numbers ≡ length old
  pub count : length new ≡ how_many numbers
  pub few : length new ≤ 4294967295
  pub below : (register number : ℕ) → entry_at None numbers register ≡ Some number → number < length new
  pub entry : (register number : ℕ) → entry_at None numbers register ≡ Some number → slice_get new number ≡ slice_get old register
  pub onto : (number : ℕ) → number < length new → (register : ℕ) × (entry_at None numbers register ≡ Some number)
  pub distinct : (register other number : ℕ) → entry_at None numbers register ≡ Some number → entry_at None numbers other ≡ Some number → register ≡ other

-- the registers that are there, in their order (own)
abbrev pub listed : List (Option ℕ) → List ℕ
listed [] = []
listed (None ∷ registers) = listed registers
listed (Some register ∷ registers) = register ∷ listed registers

-- a register is one of these (own)
abbrev pub Among : ℕ → List ℕ → Type 0
Among register [] = ⊥
Among register (other ∷ others) = (register ≡ other) ⊎ Among register others

-- a register has a number (own)
abbrev pub Numbered : List (Option ℕ) → ℕ → Type 0
Numbered numbers register = IsTrue (is_some (entry_at None numbers register))

-- Registers that had a number keep having one, and these get one, unless the old table has more of them than there are
-- numbers of 32 bits. No others do (own).
pub record Gives (old : List Register) (wanted : List ℕ) (before after : List (Option ℕ)) : Type 0 where
  pub kept : (register : ℕ) → Numbered before register → Numbered after register
  pub given : length old < 2 ^ 32 → (register : ℕ) → Among register wanted → register < length old → Numbered after register
  pub none_else : (register : ℕ) → Numbered after register → Numbered before register ⊎ Among register wanted
