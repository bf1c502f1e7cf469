use Rattle.std.proofs.Common.{◌≡◌, ◌≤◌, count_by, take}
use Rattle.exploring.specs.Commands.{is_launch}
use Rattle.exploring.proofs.counting.launch_count.Given as goal

abbrev pub invariant-loop-number : goal.invariant-loop-number
invariant-loop-number l = record {
  counted : l.launches ≡ count_by is_launch (take l.number l.commands);
  few : l.launches ≤ l.number;
}
