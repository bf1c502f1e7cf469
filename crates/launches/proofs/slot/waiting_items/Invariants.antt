use Rattle.std.proofs.Common.{◌≡◌, ◌≤◌, replicate}
use Rattle.std.specs.Prelude.{vec_len, vec_capacity}
use Rattle.launches.specs.declared.slot.Slot.TheVariants as slot
use Rattle.launches.proofs.slot.waiting_items.Given as goal

abbrev pub invariant-loop : goal.invariant-loop
invariant-loop l =
    record {
      items : l.items.items ≡ replicate l.counter slot.Waiting;
      len : vec_len l.items ≡ l.counter;
      capacity : l.fn.count ≤ vec_capacity l.items;
    }
