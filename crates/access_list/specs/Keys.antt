-- By what a log finds cells of eight bytes, and accesses (own).
use Rattle.std.specs.Prelude.{ℕ, ◌/◌, ◌==◌, ◌&&◌, Bool}
use Rattle.std.specs.Bool.{beq}
use Rattle.clmodel.specs.Cells.{byte_count}
use Rattle.clmodel.specs.declared.access.Access.{Access}
use Rattle.clmodel.specs.declared.access.Region.{Region}
use Rattle.clmodel.specs.declared.access.Region.TheVariants as region
use Rattle.access_list.specs.Kinds.{kind_number}
use Rattle.access_list.specs.Log.{in_buffer}
use Rattle.access_list.specs.declared.keys.AccessKey.{AccessKey}
use Rattle.access_list.specs.declared.keys.CellKey.{CellKey}

-- the number of an object among buffers, or among local objects of its group (own)
abbrev pub object_number : Region → ℕ
object_number (region.Buffer number) = number
object_number (region.Local group number) = number

-- the key of the cell of a byte (own)
abbrev pub cell_key : Region → ℕ → CellKey
cell_key r byte = record { is_buffer = in_buffer r; number = object_number r; cell = byte / 8 }

-- the key of an access: another of its group and its interval has another (own)
abbrev pub access_key : Access → AccessKey
access_key x =
    record {
      is_buffer = in_buffer x.region;
      number = object_number x.region;
      first = x.first;
      width = byte_count x.width;
      item = x.item;
      kind = kind_number x.kind;
      value = x.value;
    }

-- two cells' keys are one (own)
abbrev pub same_cell : CellKey → CellKey → Bool
same_cell a b = beq a.is_buffer b.is_buffer && ((a.number == b.number) && (a.cell == b.cell))

-- two accesses' keys are one (own)
abbrev pub same_key : AccessKey → AccessKey → Bool
same_key a b =
    beq a.is_buffer b.is_buffer
    && ((a.number == b.number) && ((a.first == b.first) && ((a.width == b.width) && ((a.item == b.item) && ((a.kind == b.kind) && (a.value == b.value))))))
