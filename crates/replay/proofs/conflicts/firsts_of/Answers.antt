use Rattle.std.proofs.Common.{◌≡◌, ap, sym, ◌∙◌, ◌<◌, length, arith, subst}
use Rattle.std.specs.HashMap.{get}
use Rattle.clmodel.specs.Run.{or_else}
use Rattle.std.proofs.lemmas.Option.{slice_get-get_or}
use Rattle.replay.specs.Spots.{Finds, IsOther, is_other, partner_at, same_spot}
use Rattle.replay.proofs.Spots.{place_if, told_more, none_more, one_more, same_spot-is}
use Rattle.replay.proofs.conflicts.firsts_of.Goals as goal
use Rattle.replay.proofs.conflicts.firsts_of.Goals.{in-Some+in_ok-insert, in_default}

pub loop-number-preserved : goal.loop-number-preserved
loop-number-preserved c spot left =
    let p = c.args.partner in
    let at = c.args.place.now in
    let log = c.args.log.now in
    let rule = c.args.rule in
    let i = c.loop-number.number in
    let known = get same_spot c.loop-number.firsts spot in
    let inside : i < length log = omega (arith, c.loop-number-test.true) in
    elim c.match-spot_of.branch [
      | in-Some+in_ok-insert w ↦ one_more p.item p.kind at.location.now at.byte rule log i _ w.in-Some.spot (slice_get-get_or log i _ inside) w.in-Some.ensures w.left_at.result w.left_at.ensures spot left
          (partner_at rule.uniform known left) (partner_at rule.uniform (get same_spot c.match-spot_of.firsts spot) left)
          (told_more rule.uniform known (get same_spot c.match-spot_of.firsts spot) w.with_more-more.result (same_spot w.in-Some.spot spot) (place_if (is_other rule.uniform w.left_at.result left) i) left
          (ap (λ s. get same_spot s spot) w.firsts-is ∙ w.in_ok-insert.ensures.updates.0 spot)
          (λ same. w.with_more-more.ensures rule.uniform left
          ∙ ap (λ o. or_else (partner_at rule.uniform o left) (place_if (is_other rule.uniform w.left_at.result left) i))
          (w.copied-known.ensures ∙ w.get.ensures.value ∙ ap (get same_spot c.loop-number.firsts) (same_spot-is w.in-Some.spot spot same))))
          (c.loop-number.invariant spot left)
      | in_default w ↦
          none_more p.item p.kind at.location.now at.byte rule log i _ (slice_get-get_or log i _ inside) w.in_default.ensures spot left (partner_at rule.uniform (get same_spot c.match-spot_of.firsts spot) left)
          (subst (λ s. Finds (partner_at rule.uniform (get same_spot s spot) left) (IsOther p.item p.kind at.location.now at.byte rule log i spot left)) (sym w.firsts-is) (c.loop-number.invariant spot left))
    ]

pub returns : goal.returns
returns c = λ spot left.
    let p = c.args.partner in
    let at = c.args.place.now in
    let ends : c.loop-number.number ≡ length c.args.log.now = omega (arith, c.loop-number-test.false, c.loop-number.auto.number-end) in
    subst (λ n. Finds (partner_at c.args.rule.uniform (get same_spot c.loop-number.firsts spot) left) (IsOther p.item p.kind at.location.now at.byte c.args.rule c.args.log.now n spot left)) ends
    (c.loop-number.invariant spot left)
