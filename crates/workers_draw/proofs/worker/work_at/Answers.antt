use Rattle.std.proofs.Common.{◌≡◌, ◌<◌, ◌≤◌, [], ◌∷◌, ◌++◌, arith, Some, None, sym, ap, ◌∙◌, subst}
use Rattle.workers_draw.specs.declared.board.Hand.{Hand}
use Rattle.workers_draw.specs.Board.{hand, total, is_past, Has}
use Rattle.workers_draw.specs.Groups.{Worked, AreStops, IsTried}
use Rattle.workers_draw.proofs.Works.{skipped, ran, ended, noted, still_below, has_last}
use Rattle.workers_draw.proofs.worker.work_at.Goals as goal

pub returns-then-drawn-from : goal.returns-then-drawn-from
returns-then-drawn-from g c =
    let count = g.W.Work.count c.args.work.now in let gives = g.W.Work.gives c.args.work.now in let stops = g.W.Work.stops c.args.work.now in
    let v = c.loop.seat.me.0 in let n = c.draw-drawn.result in
    let far : count ≤ n = omega (arith, c.if-drawn-from.true, c.from.ensures, c.group_count-count.ensures) in
    let one : c.draw-drawn.new.seat.me ≡ (hand v.parts (v.drawn ++ n ∷ []) v.seen v.stopped, c.loop.seat.me.1) = c.draw-drawn.ensures.drew in
    let new : c.draw-drawn.new.seat.me.0 ≡ hand v.parts (v.drawn ++ n ∷ []) v.seen v.stopped = ap (λ m. m.0) one in
    record {
      at = c.draw-drawn.ensures.same.0 ∙ c.loop.invariant.0;
      empty_handed = ap (λ m. m.1) one ∙ c.loop.invariant.1;
      share = ap (λ (h : Hand). h.parts) new ∙ c.loop.invariant.2;
      worked = subst (λ (h : Hand). Worked count gives h c.loop.outputs.items) (sym new) (ended count gives v c.loop.outputs.items n c.loop.invariant.5 far);
      right = subst (AreStops stops) (sym new) c.loop.invariant.4;
      done = (n, subst (λ (h : Hand). Has h.drawn n) (sym new) (has_last v.drawn n), far);
    }

pub loop-preserved : goal.loop-preserved
loop-preserved g c =
    let count = g.W.Work.count c.args.work.now in let gives = g.W.Work.gives c.args.work.now in let stops = g.W.Work.stops c.args.work.now in
    let v = c.loop.seat.me.0 in let n = c.draw-drawn.result in let w = c.try_at.new.seat.me.0 in
    let one : c.draw-drawn.new.seat.me ≡ (hand v.parts (v.drawn ++ n ∷ []) v.seen v.stopped, c.loop.seat.me.1) = c.draw-drawn.ensures.drew in
    let low : n < count = omega (arith, c.if-drawn-from.false, c.from.ensures, c.group_count-count.ensures) in
    let at : IsTried gives stops n c.draw-drawn.new.seat.me.0 w c.in_ok-tried.tried = c.in_ok-tried.ensures.tried in
    let tried = subst (λ (h : Hand). IsTried gives stops n h w None) (ap (λ m. m.0) one) (subst (IsTried gives stops n c.draw-drawn.new.seat.me.0 w) c.in_default.is at) in
    let e = tried.0 in let of_note = tried.1 in (
      c.in_ok-tried.ensures.same.0 ∙ (c.draw-drawn.ensures.same.0 ∙ c.loop.invariant.0),
      c.in_ok-tried.ensures.same.1 ∙ (ap (λ m. m.1) one ∙ c.loop.invariant.1),
      of_note.parts ∙ c.loop.invariant.2,
      ap (total (is_past count)) of_note.drawn ∙ still_below count n v.drawn low c.loop.invariant.3,
      of_note.stopped c.loop.invariant.4,
      noted count gives (hand v.parts (v.drawn ++ n ∷ []) (v.seen ++ e ∷ []) v.stopped) w c.loop.outputs.items of_note.drawn of_note.seen
          (skipped count gives v c.loop.outputs.items n e c.loop.invariant.5 tried.2),
    )

pub loop-preserved-in-Continue-branch-2 : goal.loop-preserved-in-Continue-branch-2
loop-preserved-in-Continue-branch-2 g c =
    let count = g.W.Work.count c.args.work.now in let gives = g.W.Work.gives c.args.work.now in let stops = g.W.Work.stops c.args.work.now in
    let v = c.loop.seat.me.0 in let n = c.draw-drawn.result in let w = c.try_at.new.seat.me.0 in let o = c.in-Some-tried.output in
    let one : c.draw-drawn.new.seat.me ≡ (hand v.parts (v.drawn ++ n ∷ []) v.seen v.stopped, c.loop.seat.me.1) = c.draw-drawn.ensures.drew in
    let low : n < count = omega (arith, c.if-drawn-from.false, c.from.ensures, c.group_count-count.ensures) in
    let at : IsTried gives stops n c.draw-drawn.new.seat.me.0 w c.in_ok-tried.tried = c.in_ok-tried.ensures.tried in
    let tried = subst (λ (h : Hand). IsTried gives stops n h w (Some o)) (ap (λ m. m.0) one) (subst (IsTried gives stops n c.draw-drawn.new.seat.me.0 w) c.in-Some-tried.is at) in
    let e = tried.0 in let of_note = tried.1 in (
      c.in_ok-tried.ensures.same.0 ∙ (c.draw-drawn.ensures.same.0 ∙ c.loop.invariant.0),
      c.in_ok-tried.ensures.same.1 ∙ (ap (λ m. m.1) one ∙ c.loop.invariant.1),
      of_note.parts ∙ c.loop.invariant.2,
      ap (total (is_past count)) of_note.drawn ∙ still_below count n v.drawn low c.loop.invariant.3,
      of_note.stopped c.loop.invariant.4,
      subst (Worked count gives w) (sym c.in_ok-push.ensures.items)
          (noted count gives (hand v.parts (v.drawn ++ n ∷ []) (v.seen ++ e ∷ []) v.stopped) w (c.loop.outputs.items ++ o ∷ []) of_note.drawn of_note.seen
          (ran count gives v c.loop.outputs.items n e o c.loop.invariant.5 low tried.2)),
    )
