use Rattle.std.proofs.Common.{◌≡◌, ◌≤◌, count_by, take}
use Rattle.explain_items.specs.Deeds.{is_release_of}
use Rattle.explain_reasons.proofs.budget.barriers_of.Given as goal

abbrev pub invariant-loop-mark : goal.invariant-loop-mark
invariant-loop-mark l = record {
  counted : l.count ≡ count_by (λ mark. is_release_of l.group mark.event) (take l.mark-index l.marks);
  few : l.count ≤ l.mark-index;
}
