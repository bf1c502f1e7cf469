use Rattle.std.proofs.Common.{◌≡◌, ◌≤◌, count_by, take}
use Rattle.fault_play.specs.PlayedOut.{is_access}
use Rattle.explain_steps.proofs.chosen.accesses_in.Given as goal

abbrev pub invariant-loop-number : goal.invariant-loop-number
invariant-loop-number l = record {
  counted : l.accesses ≡ count_by (λ mark. is_access mark.event) (take l.number l.marks);
  few : l.accesses ≤ l.number;
}
