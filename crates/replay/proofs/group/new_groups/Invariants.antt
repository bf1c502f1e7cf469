use Rattle.std.proofs.Common.{◌≡◌, length, All}
use Rattle.replay.specs.States.{IsNew}
use Rattle.replay.proofs.group.new_groups.Given as goal

abbrev pub invariant-loop : goal.invariant-loop
invariant-loop l = record { many : length l.groups.items ≡ l.counter; fresh : All IsNew l.groups.items }
