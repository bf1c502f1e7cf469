use Rattle.std.proofs.Common.{◌≡◌}
use Rattle.queue_tests.proofs.clients.drive.Given as goal

abbrev pub invariant-loop : goal.invariant-loop
invariant-loop g l = l.driver.seat.table_id ≡ l.fn.driver.seat.table_id
