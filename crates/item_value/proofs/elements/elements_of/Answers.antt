use Rattle.std.proofs.Common.{sym, ap, ◌∙◌}
use Rattle.item_value.proofs.ArrayLaws.{array_at, array_past}
use Rattle.item_value.proofs.elements.elements_of.Goals as goal

pub returns-then-place-arrays : goal.returns-then-place-arrays
returns-then-place-arrays c =
    c.as_slice.ensures ∙ ap (λ a. a.present) c.index-arrays-place.is ∙ sym (array_at c.args.arrays.now c.args.array _ c.if-place-arrays.true)

pub returns-else-place-arrays : goal.returns-else-place-arrays
returns-else-place-arrays c = sym (array_past c.args.arrays.now c.args.array c.if-place-arrays.false)
