use Rattle.std.proofs.Common.{map, ap, ◌∙◌}
use Rattle.item_value.specs.Arrays.{Elements, all_present}
use Rattle.item_value.proofs.ArrayLaws.{empty_more, room_more}
use Rattle.item_value.proofs.private_array.arrays_of.Goals as goal

pub loop-i-preserved : goal.loop-i-preserved
loop-i-preserved c = (
  ap all_present c.in_ok-push.ensures.items ∙ empty_more c.loop-i.arrays.items c.in_ok-array.array c.loop-i.i c.loop-i.invariant.0 (ap (λ (a : Elements). a.present) c.in_ok-array.ensures),
  ap (map (λ (a : Elements). a.most)) c.in_ok-push.ensures.items
      ∙ room_more c.loop-i.arrays.items c.in_ok-array.array c.args.lengths.now c.loop-i.i c.loop-i-test.true c.loop-i.invariant.1 (ap (λ (a : Elements). a.most) c.in_ok-array.ensures),
)
