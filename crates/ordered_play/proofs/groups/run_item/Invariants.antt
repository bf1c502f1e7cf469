use Rattle.std.proofs.Common.{◌-◌, ◌≤◌, ◌^◌, length}
use Rattle.ordered_play.specs.Watched.{IsWatched}
use Rattle.ordered_play.specs.Groups.{Gathers}
use Rattle.ordered_play.proofs.groups.run_item.Given as goal

abbrev pub invariant-steps : goal.invariant-steps
invariant-steps g l =
    record {
      grows : length l.fn.runs ≤ length l.runs;
      gathers : Gathers (g.D.Described.launch l.launch) l.group (IsWatched {D = g.row.D.Denot} g.D.Described.launch g.D.Runnable.started (g.D.Described.launch l.launch) (g.D.Runnable.started l.launch) l.watched) l.runs l.k l.leading;
    }

abbrev pub decreases-steps : goal.decreases-steps
decreases-steps g l = 2 ^ 64 - length l.runs
