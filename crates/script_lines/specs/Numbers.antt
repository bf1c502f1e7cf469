-- Numbers in decimal, and the bytes that they are (OpenCL 1.2, 6.1.1; a device whose bytes stand lowest first).
use Rattle.std.specs.Prelude.{◌≡◌, ℕ, ◌/◌, ◌≤◌, ◌<◌, ℤ, List, length, take, map, All}
use Rattle.std.specs.List.{flat_map, join_with_byte}
use Rattle.std.specs.Fmt.{signed_decimal}
use Rattle.std.specs.Int.{w64, to_le_bytes}
use Rattle.clnum.specs.Integer.{bits, bits_of, IsIn}
use Rattle.clnum.specs.declared.int_type.IntType.{IntType}

-- how many bytes a number of a type has
abbrev pub size_of : IntType → ℕ
size_of kind = bits kind / 8

-- the bytes of a number of a type, the lowest first
abbrev pub bytes_of : IntType → ℤ → List ℕ
bytes_of kind number = take (size_of kind) (to_le_bytes w64 (bits_of kind number))

-- numbers of a type, at least one, and their bytes, at most 1,048,576
pub record AreNumbers (kind : IntType) (numbers : List ℤ) (bytes : List ℕ) : Type 0 where
  pub some : 0 < length numbers
  pub each : All (IsIn kind) numbers
  pub are : bytes ≡ flat_map (bytes_of kind) numbers
  pub few : length bytes ≤ 1048576

-- numbers with a space between each two
abbrev pub numbers_text : List ℤ → List ℕ
numbers_text numbers = join_with_byte 32 (map signed_decimal numbers)
