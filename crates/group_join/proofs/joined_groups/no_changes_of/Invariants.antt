use Rattle.std.proofs.Common.{◌≡◌, length}
use Rattle.std.specs.Prelude.{All}
use Rattle.group_join.proofs.Zipped.{ChangesNothing}
use Rattle.group_join.proofs.joined_groups.no_changes_of.Given as goal

abbrev pub invariant-loop : goal.invariant-loop
invariant-loop l = record { many : length l.changes.items ≡ l.counter; none : All ChangesNothing l.changes.items }
