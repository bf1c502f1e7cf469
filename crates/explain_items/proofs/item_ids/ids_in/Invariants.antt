use Rattle.std.proofs.Common.{◌≡◌, ℕ, ◌<◌, length, slice_index}
use Rattle.explain_items.specs.Ids.{id_in}
use Rattle.explain_items.proofs.item_ids.ids_in.Given as goal

abbrev pub invariant-loop-dimension : goal.invariant-loop-dimension
invariant-loop-dimension l =
    (length l.ids.items ≡ l.dimension) × ((k : ℕ) → k < l.dimension → slice_index l.ids.items k ≡ id_in l.position.range.now l.position.item l.function k)
