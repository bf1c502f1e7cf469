use Rattle.std.proofs.Common.{◌<◌, Some, length, slice_set, ap, ap₂, sym, ◌∙◌, subst, arith}
use Rattle.std.proofs.lemmas.List.{length-set, length-take-le}
use Rattle.std.proofs.Math.Seq.{take-set-lt}
use Rattle.item_value.specs.Arrays.{Elements, keeping}
use Rattle.item_value.proofs.private_array.PrivateArray.set.Goals as goal

pub returns : goal.returns
returns c =
    let i = c.self.inside in
    let present = subst (λ (a : Elements). c.args.place < length a.present) (sym c.self.view_is) c.requires in
    let within : c.args.place < i.count = let most = length-take-le i.count i.elements.items c.self.invariant in omega (arith, present, most) in
    ap₂ keeping (take-set-lt i.count i.elements.items c.args.place (Some c.args.bits) within) (length-set i.elements.items c.args.place (Some c.args.bits))
    ∙ ap (λ (a : Elements). keeping (slice_set a.present c.args.place (Some c.args.bits)) a.most) c.self.view_is
