use Rattle.std.proofs.Common.{◌≡◌, [], map, replicate, take}
use Rattle.item_value.specs.Arrays.{all_present}
use Rattle.item_value.proofs.private_array.arrays_of.Given as goal

abbrev pub invariant-loop-i : goal.invariant-loop-i
invariant-loop-i l = (all_present l.arrays.items ≡ replicate l.i []) × (map (λ a. a.most) l.arrays.items ≡ take l.i l.lengths)
