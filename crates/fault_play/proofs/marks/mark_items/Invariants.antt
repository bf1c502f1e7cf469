use Rattle.std.proofs.Common.{ℕ, true, replicate}
use Rattle.clmodel.specs.Launch.{Launch}
use Rattle.clmodel.specs.Run.{State}
use Rattle.clmodel.specs.declared.schedule.Event.TheVariants as event
use Rattle.item_step.specs.Running.{Running}
use Rattle.replay.specs.States.{IsAt}
use Rattle.fault_play.specs.Marks.{AreMarked}
use Rattle.fault_play.proofs.marks.mark_items.Given as goal

abbrev pub invariant-loop : goal.invariant-loop
invariant-loop g l =
    (launch : Launch) (started : ℕ → Running) (state : State) → IsAt {D = g.row.D.Denot} g.D.Described.launch g.D.Runnable.started launch started l.fn.player state
    → AreMarked launch started l.group_size state (replicate l.counter (event.Item l.item)) l.fn.marks.items l.marks.items (IsAt {D = g.row.D.Denot} g.D.Described.launch g.D.Runnable.started launch started l.player) true
