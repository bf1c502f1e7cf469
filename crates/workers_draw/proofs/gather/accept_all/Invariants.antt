use Rattle.std.proofs.Common.{◌≡◌, ℕ, ◌++◌, Any, vec_len}
use Rattle.std.specs.Vec.Iter.{into_iter_items}
use Rattle.workers_draw.specs.Groups.{IsThere, InPlace}
use Rattle.workers_draw.proofs.gather.accept_all.Given as goal

abbrev pub invariant-loop-output : goal.invariant-loop-output
invariant-loop-output g l =
    (vec_len l.places ≡ g.W.Work.count l.work)
    × InPlace (g.W.Work.gives l.work) l.places.items
    × ((group : ℕ) → IsThere l.fn.places.items group → IsThere l.places.items group)
    × ((group : ℕ) → Any (g.W.Work.gives l.work group) l.yielded → IsThere l.places.items group)
    × (l.fn.outputs.items ≡ l.yielded ++ into_iter_items l.output-iterator)
