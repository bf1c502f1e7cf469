use Rattle.std.proofs.Common.{◌≡◌, ◌-◌, length}
use Rattle.group_traces.proofs.Parts.{ArePart}
use Rattle.group_traces.proofs.cell.bytes_with.Given as goal

abbrev pub invariant-loop-byte : goal.invariant-loop-byte
invariant-loop-byte l = (length l.traces ≡ 4) × ArePart l.x l.first (l.byte - l.first) l.initial.traces l.traces
