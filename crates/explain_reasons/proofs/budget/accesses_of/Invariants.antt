use Rattle.std.proofs.Common.{◌≡◌, ◌≤◌, count_by, take}
use Rattle.fault_play.specs.PlayedOut.{is_event_of}
use Rattle.explain_reasons.proofs.budget.accesses_of.Given as goal

abbrev pub invariant-loop-mark : goal.invariant-loop-mark
invariant-loop-mark l = record {
  counted : l.count ≡ count_by (λ mark. is_event_of l.item mark.event) (take l.mark-index l.marks);
  few : l.count ≤ l.mark-index;
}
