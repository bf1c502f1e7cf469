use Rattle.std.proofs.Common.{◌≡◌}
use Rattle.host_queue.specs.Clients.{IsOnly}
use Rattle.queue_tests.proofs.pair.sums.Given as goal

abbrev pub invariant-loop-add : goal.invariant-loop-add
invariant-loop-add l = record {
  driver : l.driver.seat.table_id ≡ l.fn.driver.seat.table_id;
  client : l.client.seat.table_id ≡ l.fn.client.seat.table_id;
  only : IsOnly l.driver.seat l.client.seat;
}
