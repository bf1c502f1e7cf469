use Rattle.std.proofs.Common.{◌≡◌, Some, slice_get, sym, ap, ◌∙◌}
use Rattle.std.proofs.lemmas.Option.{slice_get-get_or}
use Rattle.explain_reasons.proofs.Nearest.{nearest_more}
use Rattle.explain_reasons.proofs.unset.nearest_store.Goals as goal

pub loop-number-preserved : goal.loop-number-preserved
loop-number-preserved c =
    let xs = c.args.touches.now in
    let i = c.loop-number.number in
    let r = c.index-touches-number.result in
    let at : slice_get xs i ≡ Some r = slice_get-get_or xs i r c.loop-number-test.true ∙ ap Some (sym c.index-touches-number.is) in
    nearest_more xs c.args.location.now c.args.side c.args.byte i c.loop-number.near c.nearer-near.result c.distance_of.result r at c.distance_of.ensures c.nearer-near.ensures
    c.loop-number.invariant
