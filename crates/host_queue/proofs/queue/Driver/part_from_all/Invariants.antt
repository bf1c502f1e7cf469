use Rattle.std.proofs.Common.{◌≡◌, ◌+◌, ◌≤◌, length}
use Rattle.host_queue.specs.History.{Begins}
use Rattle.host_queue.specs.Clients.{Serves}
use Rattle.host_queue.specs.Views.{total}
use Rattle.host_queue.specs.Opened.{Each}
use Rattle.host_queue.proofs.queue.Driver.part_from_all.Given as goal

abbrev pub invariant-loop-client : goal.invariant-loop-client
invariant-loop-client g l = record {
  one : l.self.seat.table_id ≡ l.queue.table.shared.table_id;
  known : Begins l.fn.self.seat.me.0.known l.self.seat.me.0.known;
  start : l.self.seat.me.0.start ≡ l.fn.self.seat.me.0.start;
  admitted : l.self.seat.me.0.admitted ≡ l.fn.self.seat.me.0.admitted;
  share : l.self.seat.me.0.share + length l.clients.items ≡ l.fn.self.seat.me.0.share + length l.fn.clients.items;
  drawn : l.self.seat.me.0.count + total (λ c. length c.seat.me.0.tickets) l.clients.items ≡ l.fn.self.seat.me.0.count + total (λ c. length c.seat.me.0.tickets) l.fn.clients.items;
  rest : Begins l.clients.items l.fn.clients.items;
  done : Each l.fn.clients.items (λ k c. length l.clients.items ≤ k → Begins c.seat.me.0.known l.self.seat.me.0.known × Serves c.seat.me.0.tickets l.self.seat.me.0.known);
}

abbrev pub decreases-loop-client : goal.decreases-loop-client
decreases-loop-client g l = length l.clients.items
