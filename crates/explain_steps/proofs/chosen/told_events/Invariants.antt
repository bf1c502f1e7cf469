use Rattle.std.proofs.Common.{◌≡◌, ◌≤◌, count_by, drop, length, take}
use Rattle.fault_play.specs.PlayedOut.{is_access}
use Rattle.explain_steps.specs.Chosen.{events_made}
use Rattle.explain_steps.specs.Choosing.{IsChoice}
use Rattle.explain_steps.proofs.chosen.told_events.Given as goal

abbrev pub invariant-loop-left : goal.invariant-loop-left
invariant-loop-left l = record {
  within : l.left ≤ length l.marks;
  counted : l.accesses ≡ count_by (λ mark. is_access mark.event) (take l.left l.marks);
  choice : IsChoice l.followed l.most (events_made l.accesses (drop l.left l.marks) l.touches) l.choice;
}

abbrev pub decreases-loop-left : goal.decreases-loop-left
decreases-loop-left l = l.left
