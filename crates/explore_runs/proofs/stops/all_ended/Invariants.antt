use Rattle.std.proofs.Common.{◌≡◌, ℕ, ◌<◌}
use Rattle.clmodel.specs.Run.{State, next_action}
use Rattle.clmodel.specs.declared.action.Action.TheVariants as action
use Rattle.ordered_play.specs.Watched.{IsWatched}
use Rattle.explore_runs.proofs.stops.all_ended.Given as goal

abbrev pub invariant-loop-item : goal.invariant-loop-item
invariant-loop-item g l =
    (state : State) → IsWatched {D = g.row.D.Denot} g.D.Described.launch g.D.Runnable.started (g.D.Described.launch l.launch) (g.D.Runnable.started l.launch) l.fn.watched state
    → IsWatched {D = g.row.D.Denot} g.D.Described.launch g.D.Runnable.started (g.D.Described.launch l.launch) (g.D.Runnable.started l.launch) l.watched state
    × ((k : ℕ) → k < l.item → next_action (g.D.Described.launch l.launch) state k ≡ action.End)
