use Rattle.std.proofs.Common.{◌≡◌, length}
use Rattle.host_queue.specs.Opened.{Each}
use Rattle.queue_tests.proofs.clients.numbered_clients.Given as goal

abbrev pub invariant-loop-client : goal.invariant-loop-client
invariant-loop-client g l = Each l.clients.items (λ k c. c.seat.table_id ≡ l.queue.table.shared.table_id)

abbrev pub decreases-loop-client : goal.decreases-loop-client
decreases-loop-client g l = length l.clients.items
