-- The turns of an item's loops (own, on OpenCL 1.2, 6.12.8).
use Rattle.std.specs.Prelude.{ℕ, List, []}
use Rattle.launches.specs.declared.slot.Slot.{Slot}
use Rattle.launches.specs.declared.slot.Slot.TheVariants as slot

-- the numbers of the turns that an item's loops have made, the outermost loop first: none where it isn't under way
abbrev pub turns_of : Slot → List ℕ
turns_of slot.Waiting = []
turns_of (slot.Running running) = running.state.counters
turns_of slot.Ended = []
