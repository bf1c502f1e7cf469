use Rattle.std.proofs.Common.{◌≡◌}
use Rattle.queue_tests.proofs.agreed.draw.Given as goal

abbrev pub invariant-loop-add : goal.invariant-loop-add
invariant-loop-add l = record {
  one : l.adder.seat.table_id ≡ l.fn.adder.seat.table_id;
  name : l.adder.seat.me.0.name ≡ l.fn.adder.seat.me.0.name;
}
