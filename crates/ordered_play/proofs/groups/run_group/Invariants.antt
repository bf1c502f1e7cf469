use Rattle.std.proofs.Common.{◌-◌, ◌^◌, length}
use Rattle.ordered_play.specs.Watched.{IsWatched}
use Rattle.ordered_play.specs.Groups.{Reached}
use Rattle.ordered_play.proofs.groups.run_group.Given as goal

abbrev pub invariant-intervals : goal.invariant-intervals
invariant-intervals g l =
    Reached (g.D.Described.launch l.launch) l.group (IsWatched {D = g.row.D.Denot} g.D.Described.launch g.D.Runnable.started (g.D.Described.launch l.launch) (g.D.Runnable.started l.launch) l.watched) l.runs

abbrev pub decreases-intervals : goal.decreases-intervals
decreases-intervals g l = 2 ^ 64 - length l.runs
