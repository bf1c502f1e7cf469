-- The turns of the loops of a group's items (own, on OpenCL 1.2, 6.12.8).
use Rattle.std.specs.Prelude.{ℕ, Option, None, Some, List, []}
use Rattle.launches.specs.Turns.{turns_of}
use Rattle.launches.specs.declared.slot.Slot.{Slot}

-- the numbers of the turns that an item's loops have made, the outermost loop first, if there is such an item
abbrev pub turns_in : Option Slot → List ℕ
turns_in None = []
turns_in (Some slot) = turns_of slot
