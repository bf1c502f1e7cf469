use Rattle.std.proofs.Common.{◌≡◌, ◌++◌, length}
use Rattle.std.specs.Vec.Iter.{into_iter_items}
use Rattle.workers_draw.proofs.Orders.{SoFar}
use Rattle.workers_draw.proofs.gather.in_order.Given as goal

abbrev pub invariant-loop-place : goal.invariant-loop-place
invariant-loop-place g l =
    SoFar (g.W.Work.gives l.work) g.W.Work.is_stopped 0 l.outputs.items
    × (length l.yielded ≡ length l.outputs.items)
    × (l.fn.places.items ≡ l.yielded ++ into_iter_items l.place-iterator)
