use Rattle.ordered_play.specs.Watched.{IsWatched}
use Rattle.ordered_play.specs.Groups.{Reached}
use Rattle.ordered_play.proofs.groups.run_groups.Given as goal

abbrev pub invariant-loop-group : goal.invariant-loop-group
invariant-loop-group g l =
    Reached (g.D.Described.launch l.launch) l.group (IsWatched {D = g.row.D.Denot} g.D.Described.launch g.D.Runnable.started (g.D.Described.launch l.launch) (g.D.Runnable.started l.launch) l.watched) l.runs
