use Rattle.std.proofs.Common.{◌≤◌, length}
use Rattle.ordered_play.specs.Watched.{IsWatched}
use Rattle.explore_runs.specs.Orders.{Led}
use Rattle.explore_runs.proofs.order.play_turns.Given as goal

abbrev pub invariant-loop : goal.invariant-loop
invariant-loop g l =
    record {
      few : length l.runs ≤ l.counter;
      led : Led (g.D.Described.launch l.launch) (IsWatched {D = g.row.D.Denot} g.D.Described.launch g.D.Runnable.started (g.D.Described.launch l.launch) (g.D.Runnable.started l.launch) l.watched) l.runs;
    }
