-- The spaces that hold the buffers and a group's local objects, and what an operation does to them (OpenCL 1.2, 3.3,
-- 6.5.1, 6.5.2; own in the faults).
use Rattle.std.specs.Prelude.{◌≡◌, ℕ, true, Option, None, Some, List, [], length, slice_get, Result, Ok, Err}
use Rattle.clmodel.specs.Cells.{cells_of, size_of, reads, found, answer_to, effect, lowest_unset}
use Rattle.clmodel.specs.Launch.{Launch, bytes_of}
use Rattle.clmodel.specs.Run.{Memory, with_cells}
use Rattle.clmodel.specs.declared.access.Object.{Object}
use Rattle.clmodel.specs.declared.access.Object.TheVariants as object
use Rattle.clmodel.specs.declared.access.Operation.{Operation}
use Rattle.clmodel.specs.declared.access.Region.{Region}
use Rattle.clmodel.specs.declared.access.Region.TheVariants as region
use Rattle.clmodel.specs.declared.action.Answer.{Answer}
use Rattle.spaces.specs.declared.space.SpaceFault.{SpaceFault}
use Rattle.spaces.specs.declared.space.SpaceFault.TheVariants as space_fault

-- a program's spaces, one for each of `count` regions of a kind, hold what a memory has there
pub record SpacesHold {S : Type 0} (bytes : S → List (Option ℕ)) (launch : Launch) (count : ℕ) (region_at : ℕ → Region) (spaces : List S) (memory : Memory) : Type 0 where
  pub many : length spaces ≡ count
  pub sized : (n : ℕ) (x : S) → slice_get spaces n ≡ Some x → length (bytes x) ≡ bytes_of launch (region_at n)
  pub none : (n : ℕ) → slice_get spaces n ≡ None → bytes_of launch (region_at n) ≡ 0
  pub cells : (n : ℕ) (x : S) → slice_get spaces n ≡ Some x → cells_of (bytes x) ≡ memory (region_at n)

-- a program's buffers and local objects of a group hold a memory (OpenCL 1.2, 3.3)
abbrev pub ObjectsHold : {G : Type 0} → (G → List (Option ℕ)) → Launch → ℕ → List G → List (List (Option ℕ)) → Memory → Type 0
ObjectsHold bytes launch group buffers locals memory =
    SpacesHold bytes launch (length launch.buffers) region.Buffer buffers memory
    × SpacesHold (λ cells. cells) launch (length launch.local_sizes) (region.Local group) locals memory

-- the bytes of a space, if there is one
abbrev pub bytes_or : {S : Type 0} → (S → List (Option ℕ)) → Option S → List (Option ℕ)
bytes_or bytes None = []
bytes_or bytes (Some x) = bytes x

-- the bytes of the space that stands for an object (OpenCL 1.2, 6.5.1, 6.5.2)
abbrev pub space_of : {G : Type 0} → (G → List (Option ℕ)) → List G → List (List (Option ℕ)) → Object → List (Option ℕ)
space_of bytes buffers locals (object.Buffer number) = bytes_or bytes (slice_get buffers number)
space_of bytes buffers locals (object.Local number) = bytes_or (λ cells. cells) (slice_get locals number)

-- what an operation in a region answers and leaves of each memory that is held (OpenCL 1.2, 3.3, 6.12.11; own in the
-- faults)
abbrev pub IsMoved : (Memory → Type 0) → (Memory → Type 0) → Region → ℕ → Operation → Result Answer SpaceFault → Type 0
IsMoved old new at first operation (Ok answer) =
    (memory : Memory) → old memory
    → (x : ℕ) × (found operation (memory at) first ≡ Some x) × (answer ≡ answer_to operation x) × new (with_cells memory at (effect operation x (memory at) first))
IsMoved old new at first operation (Err space_fault.Bounds) = ⊥
IsMoved old new at first operation (Err (space_fault.Unset byte)) =
    (memory : Memory) → old memory → (reads operation ≡ true) × (lowest_unset (memory at) first (size_of operation) ≡ Some byte) × new memory
IsMoved old new at first operation (Err space_fault.ReadOnly) = ⊥
IsMoved old new at first operation (Err space_fault.OutOfMemory) = (memory : Memory) → old memory → new memory
