use Rattle.std.proofs.Common.{◌≡◌, ◌++◌, [], ◌∷◌, sym, ap, ◌∙◌, subst}
use Rattle.workers_draw.specs.declared.board.Hand.{Hand}
use Rattle.workers_draw.specs.Board.{hand}
use Rattle.workers_draw.specs.Groups.{AreStops}
use Rattle.workers_draw.proofs.Works.{one_stop}
use Rattle.workers_draw.proofs.worker.note.Goals as goal

pub returns-then-stopped-clause-noted : goal.returns-then-stopped-clause-noted
returns-then-stopped-clause-noted g c =
    let stops = g.W.Work.stops c.args.work.now in let v = c.args.seat.now.me.0 in let n = c.args.group in
    let new : c.lower.new.seat.me.0 ≡ hand v.parts v.drawn v.seen (v.stopped ++ n ∷ []) = ap (λ m. m.0) c.lower.ensures.lowered in
    let is : stops n = c.laws.ensures.stopped_stops n c.args.output.now c.requires.gives (sym c.stopped.ensures ∙ c.if-stopped.true) in
    record {
      parts = ap (λ (h : Hand). h.parts) new;
      drawn = ap (λ (h : Hand). h.drawn) new;
      seen = ap (λ (h : Hand). h.seen) new;
      stopped = λ all. subst (AreStops stops) (sym new) (one_stop stops v n is all);
    }
