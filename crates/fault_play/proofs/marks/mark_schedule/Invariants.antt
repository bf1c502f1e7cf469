use Rattle.std.proofs.Common.{ℕ, true, take}
use Rattle.clmodel.specs.Launch.{Launch}
use Rattle.clmodel.specs.Outcome.{events_of}
use Rattle.clmodel.specs.Run.{State}
use Rattle.item_step.specs.Running.{Running}
use Rattle.replay.specs.States.{IsAt}
use Rattle.fault_play.specs.Marks.{AreMarked}
use Rattle.fault_play.proofs.marks.mark_schedule.Given as goal

abbrev pub invariant-loop-run : goal.invariant-loop-run
invariant-loop-run g l =
    (launch : Launch) (started : ℕ → Running) (state : State) → IsAt {D = g.row.D.Denot} g.D.Described.launch g.D.Runnable.started launch started l.fn.player state
    → AreMarked launch started l.group_size state (events_of (take l.run-index l.runs)) l.fn.marks.items l.marks.items (IsAt {D = g.row.D.Denot} g.D.Described.launch g.D.Runnable.started launch started l.player) true
