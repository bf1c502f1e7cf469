-- A set of bytes of objects (own).
use Rattle.std.specs.Prelude.{◌≡◌, ◌<◌, ◌+◌, ◌==◌, ◌&&◌, ◌||◌, ◌⊎◌, ℕ, Bool, true, nat_le, nat_lt, None, Some, Option, List, map, slice_get}
use Rattle.std.specs.HashSet.{HashSet, contains}
use Rattle.clmodel.specs.declared.access.AccessKind.{AccessKind}
use Rattle.clmodel.specs.declared.fault.Location.{Location}
use Rattle.fault_play.specs.declared.marks.Mark.{Mark}
use Rattle.fault_play.specs.declared.played.Touch.{Touch}
use Rattle.explain_steps.specs.Chosen.{Gives, IsAwaited, IsGiven, IsOn, Writes}
use Rattle.explain_steps.specs.declared.bytes.ByteKey.{ByteKey}
use Rattle.explain_steps.specs.declared.bytes.ByteSet.{ByteSet}
use Rattle.explain_steps.specs.declared.chosen.Followed.{Followed}

-- two keys are one
abbrev pub same_byte : ByteKey → ByteKey → Bool
same_byte a b = (a.place == b.place) && (a.byte == b.byte)

abbrev pub byte_key : ℕ → ℕ → ByteKey
byte_key place byte = record { place = place; byte = byte }

-- a key is that of one of so many bytes of an object, from the first on
abbrev pub is_among : ℕ → ℕ → ℕ → ByteKey → Bool
is_among place first count key = (place == key.place) && (nat_le first key.byte && nat_lt key.byte (first + count))

abbrev pub has_key : {S : Type 0} → HashSet ByteKey S → ByteKey → Bool
has_key keys key = contains same_byte keys key

-- the number of an object in a list: that of its first place
pub record IsNumber (places : List Location) (place : Location) (number : ℕ) : Type 0 where
  pub at : slice_get places number ≡ Some place
  pub first : (earlier : ℕ) → earlier < number → slice_get places earlier ≡ Some place → ⊥

-- the same, if it is in the list
abbrev pub IsFound : List Location → Location → Option ℕ → Type 0
IsFound places place None = (number : ℕ) → slice_get places number ≡ Some place → ⊥
IsFound places place (Some number) = IsNumber places place number

abbrev pub places_of : ByteSet → List Location
places_of bytes = map (λ place. place.now) bytes.places.items

-- the set has a byte of an object
abbrev pub Has : ByteSet → Location → ℕ → Type 0
Has bytes place byte = (number : ℕ) × IsNumber (places_of bytes) place number × (has_key bytes.keys (byte_key number byte) ≡ true)

-- the set has these bytes, and no others
pub record Holds (bytes : ByteSet) (those : Location → ℕ → Type 0) : Type 0 where
  pub all : (place : Location) (byte : ℕ) → those place byte → Has bytes place byte
  pub only : (key : ByteKey) → has_key bytes.keys key ≡ true → (place : Location) × IsNumber (places_of bytes) place key.place × those place key.byte

-- what is left of the bytes that are awaited where this access comes first: those that it doesn't write, and those that
-- it gives beside
abbrev pub IsLeft : Followed → Touch → List (Mark × Option Touch) → Location → ℕ → Type 0
IsLeft followed touch later place byte = (Writes place byte (Some touch) → ⊥) × IsAwaited followed later place byte
