use Rattle.std.proofs.Common.{◌≡◌, ◌+◌, vec_len, length}
use Rattle.host_queue.specs.Opened.{Each, IsGuest}
use Rattle.host_queue.proofs.queue.Driver.admit_all.Given as goal

abbrev pub invariant-loop-i : goal.invariant-loop-i
invariant-loop-i g l = record {
  one : l.self.seat.table_id ≡ l.fn.self.seat.table_id;
  machine : l.self.machine ≡ l.fn.self.machine;
  start : l.self.seat.me.0.start ≡ l.fn.self.seat.me.0.start;
  known : l.self.seat.me.0.known ≡ l.fn.self.seat.me.0.known;
  share : l.self.seat.me.0.share ≡ l.fn.self.seat.me.0.share;
  credit : l.self.seat.me.0.credit + l.i ≡ 16;
  admitted : l.self.seat.me.0.admitted ≡ l.i;
  long : vec_len l.list ≡ l.i;
  size : length l.list.items ≡ l.i;
  guests : Each l.list.items (λ k c. (c.seat.table_id ≡ l.queue.table.shared.table_id) × IsGuest l.fn.self.seat.me.0.start k c.seat);
}
