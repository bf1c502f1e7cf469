use Rattle.std.proofs.Common.{◌≡◌, None, length, replicate, take}
use Rattle.item_value.proofs.private_array.clear.Given as goal

abbrev pub invariant-loop-i : goal.invariant-loop-i
invariant-loop-i l = (length l.elements.items ≡ length l.fn.elements.items) × (take l.i l.elements.items ≡ replicate l.i None)
