-- How the bytes of each cell were accessed last: what is kept of each byte, in cells of two words of four bytes (own,
-- on OpenCL 1.2, 3.3.1).
use Rattle.std.specs.Prelude.{◌≡◌, ℕ, ◌+◌, ◌/◌, ◌%◌, ◌<◌, Bool, true, Option, None, Some, List, length}
use Rattle.std.specs.HashMap.{get}
use Rattle.clmodel.specs.Cells.{byte_count, covers}
use Rattle.clmodel.specs.Launch.{within_group, conflict_between}
use Rattle.clmodel.specs.declared.access.Access.{Access}
use Rattle.clmodel.specs.declared.access.Region.{Region}
use Rattle.access_list.specs.Keys.{cell_key, same_cell}
use Rattle.access_list.specs.Recent.{Describes, nothing, at_place}
use Rattle.access_list.specs.declared.cells.Cells.{Cells}
use Rattle.access_list.specs.declared.keys.CellKey.{CellKey}
use Rattle.access_list.specs.declared.recent.Recent.{Recent}
use Rattle.access_list.specs.declared.word.ListedWord.{ListedWord}

-- what is kept of a byte of a cell, by where the cell's two words start (own)
abbrev pub in_cell : List ListedWord → List Recent → ℕ → Option ℕ → Recent
in_cell words apart k None = nothing
in_cell words apart k (Some start) = at_place words apart (start + k / 4) (k % 4)

-- what is kept of a byte of a key's cell (own)
abbrev pub at_key : Cells → CellKey → ℕ → Recent
at_key cells key k = in_cell cells.words.items cells.apart.items k (get same_cell cells.starts key)

-- what is kept of a byte of a region (own)
abbrev pub cell_of : Cells → Region → ℕ → Recent
cell_of cells r byte = at_key cells (cell_key r byte) (byte % 8)

-- an access is kept at each of its bytes (own)
abbrev pub IsMarked : Cells → Access → Type 0
IsMarked cells y = (byte : ℕ) → covers y.first (byte_count y.width) byte ≡ true → Describes (cell_of cells y.region byte) y byte

-- an access at a byte conflicts there with none of those of which this is kept, in a launch that is uniform or not
-- (3.3.1, 6.12.8)
abbrev pub Passes : Bool → Recent → Access → ℕ → Type 0
Passes uniform r x byte = (y : Access) → Describes r y byte → conflict_between (within_group uniform) y x byte ≡ None

-- what is kept before is kept after (own)
abbrev pub KeepsAll : Cells → Cells → Type 0
KeepsAll old new = (key : CellKey) (k : ℕ) (y : Access) (byte : ℕ) → k < 8 → Describes (at_key old key k) y byte → Describes (at_key new key k) y byte

-- the same cells, with what is kept before of each byte of each word (own)
pub record KeepsWords (old new : Cells) : Type 0 where
  pub starts : new.starts ≡ old.starts
  pub long : length new.words.items ≡ length old.words.items
  pub kept : (place k : ℕ) (y : Access) (byte : ℕ) → k < 4 → Describes (at_place old.words.items old.apart.items place k) y byte → Describes (at_place new.words.items new.apart.items place k) y byte
