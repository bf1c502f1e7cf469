use Rattle.std.proofs.Common.{◌≡◌, length}
use Rattle.source_spots.specs.Spots.{BeginAt}
use Rattle.source_spots.proofs.spots.calls_of.Given as goal

abbrev pub invariant-loop-at : goal.invariant-loop-at
invariant-loop-at l = (length l.calls.items ≡ l.at-index) × BeginAt l.source.text.now l.source.first_line l.through l.calls.items
