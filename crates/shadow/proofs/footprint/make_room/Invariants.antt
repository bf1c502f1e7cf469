use Rattle.std.proofs.Common.{◌≡◌, ℕ, ◌+◌, ◌-◌, length}
use Rattle.shadow.specs.Seen.{cell, buffer_cells}
use Rattle.shadow.proofs.footprint.make_room.Given as goal

abbrev pub invariant-loop-alloc : goal.invariant-loop-alloc
invariant-loop-alloc l = (n byte : ℕ) → cell (buffer_cells l.buffers.items) n byte ≡ cell (buffer_cells l.fn.buffers.items) n byte

abbrev pub decreases-loop-alloc : goal.decreases-loop-alloc
decreases-loop-alloc l = l.number + 1 - length l.buffers.items
