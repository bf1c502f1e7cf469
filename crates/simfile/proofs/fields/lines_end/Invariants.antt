use Rattle.std.proofs.Common.{◌≡◌, ◌<◌, drop}
use Rattle.simfile.specs.Reading.{lines_end}
use Rattle.simfile.proofs.fields.lines_end.Given as goal

abbrev pub invariant-loop-index : goal.invariant-loop-index
invariant-loop-index l = record { some : 0 < l.left; same : lines_end l.left l.index (drop l.index l.bytes) ≡ lines_end l.count 0 l.bytes }
