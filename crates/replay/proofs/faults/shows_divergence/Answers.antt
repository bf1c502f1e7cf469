use Rattle.std.proofs.Common.{◌≡◌, ◌/◌, sym, ap, ◌∙◌}
use Rattle.std.proofs.lemmas.Result.{IfOk-weaker}
use Rattle.clmodel.specs.Launch.{group_of}
use Rattle.replay.proofs.Showing.{diverges}
use Rattle.replay.proofs.faults.shows_divergence.Goals as goal

pub returns : goal.returns
returns g c =
    let l = g.D.Described.launch c.args.launch.now in
    let one : group_of l c.args.item ≡ group_of l c.args.other_item
    = ap (λ n. c.args.item / n) (sym c.group_size-size.ensures.value) ∙ c.if-item-size.false ∙ ap (λ n. c.args.other_item / n) c.group_size-size.ensures.value in
    IfOk-weaker c.stops_at-2.result _ _
    (λ answer h. λ r s at.
    diverges l s c.args.item c.args.stop.now c.args.other_item c.args.other_stop.now answer one (sym c.same_stop.ensures.value ∙ c.if-same_stop.false)
    ((c.in_ok-stops_at.ensures.value l r s at).0 c.if-not-branch.false) (h l r s (c.in_ok-stops_at.ensures.same l r s at)))
    c.stops_at-2.ensures.value
