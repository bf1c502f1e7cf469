use Rattle.std.proofs.Common.{◌≡◌, length}
use Rattle.source_spots.specs.Spots.{HaveTurns}
use Rattle.source_spots.proofs.spots.loop_sites.Given as goal

abbrev pub invariant-loop-number : goal.invariant-loop-number
invariant-loop-number l = (length l.loops.items ≡ l.number) × HaveTurns l.turns l.loops.items
