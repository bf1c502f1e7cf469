-- Words of 4 bytes, and bytes: which ones an access touches (own).
use Rattle.std.specs.Prelude.{ℕ, ◌+◌, ◌/◌, ◌%◌, ◌==◌, ◌&&◌, nat_le, if◌then◌else◌, Bool, true, false}
use Rattle.std.specs.Bool.{beq}
use Rattle.clmodel.specs.Cells.{byte_count}
use Rattle.clmodel.specs.declared.access.Access.{Access}
use Rattle.clmodel.specs.declared.access.Region.{Region}
use Rattle.clmodel.specs.declared.access.Region.TheVariants as region
use Rattle.race_filter.specs.declared.part.Part.{Part}

-- the number of the word of an access's first byte (own)
abbrev pub first_word : Access → ℕ
first_word x = x.first / 4

-- that of its last byte, where it touches one word or two (own)
abbrev pub last_word : Access → ℕ
last_word x = if nat_le (x.first % 4 + byte_count x.width) 4 then first_word x else first_word x + 1

-- an access touches one word, or two (own)
abbrev pub is_on_two_words : Access → Bool
is_on_two_words x = nat_le (x.first % 4 + byte_count x.width) 8

-- a word of an object, or a byte of it (own)
abbrev pub part_of : Region → (is_byte : Bool) → ℕ → Part
part_of (region.Buffer number) is_byte place = record { is_local = false; group = 0; number = number; is_byte = is_byte; place = place }
part_of (region.Local group number) is_byte place = record { is_local = true; group = group; number = number; is_byte = is_byte; place = place }

abbrev pub word_in : Region → ℕ → Part
word_in object word = part_of object false word

abbrev pub byte_in : Region → ℕ → Part
byte_in object byte = part_of object true byte

-- two parts are one (own)
abbrev pub same_part : Part → Part → Bool
same_part a b =
    beq a.is_local b.is_local && ((a.group == b.group) && ((a.number == b.number) && (beq a.is_byte b.is_byte && (a.place == b.place))))
