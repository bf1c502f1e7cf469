use Rattle.std.proofs.Common.{◌≡◌, ◌≤◌, length}
use Rattle.host_queue.specs.History.{Begins}
use Rattle.host_queue.proofs.queue.Driver.drive_to.Given as goal

abbrev pub invariant-loop : goal.invariant-loop
invariant-loop g l = record {
  one : l.self.seat.table_id ≡ l.fn.self.seat.table_id;
  known : Begins l.fn.self.seat.me.0.known l.self.seat.me.0.known;
  no_more : length l.fn.self.seat.me.0.known ≤ l.count → length l.self.seat.me.0.known ≤ l.count;
  start : l.self.seat.me.0.start ≡ l.fn.self.seat.me.0.start;
  admitted : l.self.seat.me.0.admitted ≡ l.fn.self.seat.me.0.admitted;
  share : l.self.seat.me.0.share ≡ l.fn.self.seat.me.0.share;
  drawn : l.self.seat.me.0.count ≡ l.fn.self.seat.me.0.count;
}
