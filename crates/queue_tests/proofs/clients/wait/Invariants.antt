use Rattle.std.proofs.Common.{◌≡◌}
use Rattle.host_queue.specs.Clients.{IsOpen}
use Rattle.queue_tests.proofs.clients.wait.Given as goal

abbrev pub invariant-loop : goal.invariant-loop
invariant-loop g l = record {
  one : l.client.seat.table_id ≡ l.fn.client.seat.table_id;
  own : IsOpen l.client.seat l.ticket.number;
}
