-- The laws of a memory space: a list of bytes, some of which may be unset (OpenCL 1.2, 3.3, 6.12.11; own in the
-- faults).
use Rattle.std.specs.Prelude.{◌≡◌, ℕ, ◌+◌, ◌<◌, ◌≤◌, ◌^◌, Bool, true, false, Option, Some, List, length, Result, Ok, Err}
use Rattle.clmodel.specs.Cells.{Cells, cells_of, byte_count, number, lowest_unset, written, updated_word, fetched}
use Rattle.clmodel.specs.declared.access.Width.{Width}
use Rattle.clmodel.specs.declared.access.Class.{Class}
use Rattle.clmodel.specs.declared.access.FetchOp.{FetchOp}
use Rattle.spaces.specs.declared.space.SpaceFault.{SpaceFault}
use Rattle.spaces.specs.declared.space.SpaceFault.TheVariants as fault

-- n bytes from one on lie in a space
abbrev pub InRange : List (Option ℕ) → ℕ → ℕ → Type 0
InRange bytes at count = at + count ≤ length bytes

-- one of n bytes from one on lies outside of it
abbrev pub Outside : List (Option ℕ) → ℕ → ℕ → Type 0
Outside bytes at count = length bytes < at + count

-- what a load answers: the little-endian number of the bytes, or why there is none
abbrev pub IsLoaded : List (Option ℕ) → ℕ → Width → Result ℕ SpaceFault → Type 0
IsLoaded bytes at width (Ok value) =
    InRange bytes at (byte_count width) × (number (cells_of bytes) at (byte_count width) ≡ Some value) × (value < 256 ^ byte_count width)
IsLoaded bytes at width (Err fault.Bounds) = Outside bytes at (byte_count width)
IsLoaded bytes at width (Err (fault.Unset byte)) =
    InRange bytes at (byte_count width) × (lowest_unset (cells_of bytes) at (byte_count width) ≡ Some byte)
IsLoaded bytes at width (Err fault.ReadOnly) = ⊥
IsLoaded bytes at width (Err fault.OutOfMemory) = ⊥

-- a space of the same size, with these cells
pub record Becomes (old new : List (Option ℕ)) (cells : Cells) : Type 0 where
  pub length_same : length new ≡ length old
  pub cells_are : (byte : ℕ) → cells_of new byte ≡ cells byte

-- what a store leaves and answers. `read_only`: the space can only be read; `may_want`: a store may find no memory.
abbrev pub IsStored : Bool → Bool → List (Option ℕ) → ℕ → Width → ℕ → List (Option ℕ) → Result (Unit {0}) SpaceFault → Type 0
IsStored read_only may_want old at width value new (Ok done) =
    (read_only ≡ false) × InRange old at (byte_count width) × Becomes old new (written (cells_of old) at (byte_count width) value)
IsStored read_only may_want old at width value new (Err fault.Bounds) = (read_only ≡ false) × Outside old at (byte_count width) × (new ≡ old)
IsStored read_only may_want old at width value new (Err (fault.Unset byte)) = ⊥
IsStored read_only may_want old at width value new (Err fault.ReadOnly) = (read_only ≡ true) × (new ≡ old)
IsStored read_only may_want old at width value new (Err fault.OutOfMemory) =
    (read_only ≡ false) × (may_want ≡ true) × InRange old at (byte_count width) × (new ≡ old)

-- what an update leaves and answers
abbrev pub IsUpdated : Bool → Bool → List (Option ℕ) → ℕ → Class → ℕ → List (Option ℕ) → Result (Unit {0}) SpaceFault → Type 0
IsUpdated read_only may_want old at class operand new (Ok done) =
    (found : ℕ) × (read_only ≡ false) × InRange old at 4 × (number (cells_of old) at 4 ≡ Some found)
    × Becomes old new (written (cells_of old) at 4 (updated_word class found operand))
IsUpdated read_only may_want old at class operand new (Err fault.Bounds) = (read_only ≡ false) × Outside old at 4 × (new ≡ old)
IsUpdated read_only may_want old at class operand new (Err (fault.Unset byte)) =
    (read_only ≡ false) × InRange old at 4 × (lowest_unset (cells_of old) at 4 ≡ Some byte) × (new ≡ old)
IsUpdated read_only may_want old at class operand new (Err fault.ReadOnly) = (read_only ≡ true) × (new ≡ old)
IsUpdated read_only may_want old at class operand new (Err fault.OutOfMemory) =
    (read_only ≡ false) × (may_want ≡ true) × InRange old at 4 × (new ≡ old)

-- what a fetch leaves and answers: the number that was there (6.12.11: "old"), in whose place is what the operation
-- makes of it
abbrev pub IsFetched : Bool → Bool → List (Option ℕ) → ℕ → FetchOp → ℕ → List (Option ℕ) → Result ℕ SpaceFault → Type 0
IsFetched read_only may_want old at op operand new (Ok found) =
    (read_only ≡ false) × InRange old at 4 × (number (cells_of old) at 4 ≡ Some found) × Becomes old new (written (cells_of old) at 4 (fetched op found operand))
IsFetched read_only may_want old at op operand new (Err fault.Bounds) = (read_only ≡ false) × Outside old at 4 × (new ≡ old)
IsFetched read_only may_want old at op operand new (Err (fault.Unset byte)) =
    (read_only ≡ false) × InRange old at 4 × (lowest_unset (cells_of old) at 4 ≡ Some byte) × (new ≡ old)
IsFetched read_only may_want old at op operand new (Err fault.ReadOnly) = (read_only ≡ true) × (new ≡ old)
IsFetched read_only may_want old at op operand new (Err fault.OutOfMemory) =
    (read_only ≡ false) × (may_want ≡ true) × InRange old at 4 × (new ≡ old)

-- what a change of 4 bytes leaves and answers: the number that was there (6.12.11: "old"), in whose place is one that
-- `makes` allows for it
abbrev pub IsChanged : Bool → List (Option ℕ) → ℕ → (ℕ → ℕ → Type 0) → List (Option ℕ) → Result ℕ SpaceFault → Type 0
IsChanged may_want old at makes new (Ok found) =
    (value : ℕ) × makes found value × InRange old at 4 × (number (cells_of old) at 4 ≡ Some found) × Becomes old new (written (cells_of old) at 4 value)
IsChanged may_want old at makes new (Err fault.Bounds) = Outside old at 4 × (new ≡ old)
IsChanged may_want old at makes new (Err (fault.Unset byte)) = InRange old at 4 × (lowest_unset (cells_of old) at 4 ≡ Some byte) × (new ≡ old)
IsChanged may_want old at makes new (Err fault.ReadOnly) = ⊥
IsChanged may_want old at makes new (Err fault.OutOfMemory) = (may_want ≡ true) × InRange old at 4 × (new ≡ old)
