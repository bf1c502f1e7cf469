use Rattle.std.proofs.Common.{◌≡◌}
use Rattle.std.specs.Prelude.{drop}
use Rattle.ordered_play.specs.Races.{race_on}
use Rattle.ordered_play.proofs.races.race_on.Given as goal

abbrev pub invariant-loop-y : goal.invariant-loop-y
invariant-loop-y g l =
    race_on (g.D.Described.launch l.launch) l.x l.byte l.log ≡ race_on (g.D.Described.launch l.launch) l.x l.byte (drop l.y-index l.log)
