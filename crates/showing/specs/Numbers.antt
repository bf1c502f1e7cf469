-- Bytes as numbers of an integer type, and their text.
use Rattle.std.specs.Prelude.{ℕ, ◌*◌, ◌/◌, ℤ, pos, Some, List, [], ◌∷◌, length, map, codes, slice_index}
use Rattle.std.specs.Fmt.{signed_decimal}
use Rattle.std.specs.List.{flat_map, range_with_len}
use Rattle.std.specs.Option.{unwrap_or}
use Rattle.byte_io.specs.Pieces.{joined}
use Rattle.clmodel.specs.Cells.{Cells, byte_count, number}
use Rattle.clmodel.specs.Next.{element_width}
use Rattle.clnum.specs.Integer.{wrap}
use Rattle.clnum.specs.declared.int_type.IntType.{IntType}

-- how many bytes a number of a type has (OpenCL 1.2, 6.1.1)
abbrev pub size_of : IntType → ℕ
size_of kind = byte_count (element_width kind)

-- bytes as those of a buffer, each of them set
abbrev pub cells_of : List ℕ → Cells
cells_of bytes byte = Some (slice_index bytes byte)

-- the number that a load of an element answers, of an array of a type that has these bytes (6.1.1; C99 6.5.2.1)
abbrev pub element : IntType → List ℕ → ℕ → ℤ
element kind bytes index = wrap kind (pos (unwrap_or (number (cells_of bytes) (size_of kind * index) (size_of kind)) 0))

-- so many elements of it, the first ones
abbrev pub elements : IntType → List ℕ → ℕ → List ℤ
elements kind bytes count = map (element kind bytes) (range_with_len 0 count)

-- a number in decimal, behind a space (own)
abbrev pub number_text : ℤ → List ℕ
number_text number = joined (codes " " ∷ signed_decimal number ∷ [])

-- the line of bytes that were read, as numbers of a type (own)
abbrev pub numbers_line : IntType → List ℕ → List ℕ
numbers_line kind bytes = joined (codes "data" ∷ flat_map number_text (elements kind bytes (length bytes / size_of kind)) ∷ codes "\n" ∷ [])
