use Rattle.std.proofs.Common.{◌≡◌, ◌+◌, ◌-◌}
use Rattle.clmodel.specs.Cells.{byte_count}
use Rattle.ordered_play.specs.Races.{race_from}
use Rattle.ordered_play.proofs.races.race_with.Given as goal

abbrev pub invariant-loop-byte : goal.invariant-loop-byte
invariant-loop-byte g l =
    race_from (g.D.Described.launch l.launch) l.x l.log l.x.first (byte_count l.x.width)
    ≡ race_from (g.D.Described.launch l.launch) l.x l.log l.byte (l.x.first + byte_count l.x.width - l.byte)
