use Rattle.std.proofs.Common.{◌≡◌, ℕ, ◌+◌, ◌%◌, ◌<◌, ◌≤◌, length}
use Rattle.std.specs.Prelude.{slice_index_or}
use Rattle.clmodel.specs.declared.access.Access.{Access}
use Rattle.access_list.specs.Recent.{Describes, nothing}
use Rattle.access_list.proofs.word.add.Given as goal

abbrev pub invariant-loop-byte : goal.invariant-loop-byte
invariant-loop-byte l =
    (length l.apart.items ≡ length l.fn.apart.items)
    × ((k : ℕ) (y : Access) (byte : ℕ) → Describes (slice_index_or l.fn.apart.items k nothing) y byte → Describes (slice_index_or l.apart.items k nothing) y byte)
    × ((byte : ℕ) → l.first ≤ byte → byte < l.byte → Describes (slice_index_or l.apart.items (l.at + byte % 4) nothing) l.x byte)
