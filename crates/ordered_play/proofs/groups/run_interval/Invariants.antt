use Rattle.std.proofs.Common.{◌≤◌, length}
use Rattle.ordered_play.specs.Watched.{IsWatched}
use Rattle.ordered_play.specs.Groups.{Gathers}
use Rattle.ordered_play.proofs.groups.run_interval.Given as goal

abbrev pub invariant-loop-k : goal.invariant-loop-k
invariant-loop-k g l =
    record {
      grows : length l.fn.runs ≤ length l.runs;
      gathers : Gathers (g.D.Described.launch l.launch) l.group (IsWatched {D = g.row.D.Denot} g.D.Described.launch g.D.Runnable.started (g.D.Described.launch l.launch) (g.D.Runnable.started l.launch) l.watched) l.runs l.k l.leading;
    }
