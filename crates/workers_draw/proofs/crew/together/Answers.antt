use Rattle.std.proofs.Common.{◌≡◌, sym, ap, ◌∙◌, subst, subst₂}
use Rattle.workers_draw.specs.declared.board.Hand.{Hand}
use Rattle.workers_draw.specs.Board.{both}
use Rattle.workers_draw.specs.Groups.{Worked, AreStops, IsDone}
use Rattle.workers_draw.proofs.Works.{joined, both_stop, still_done}
use Rattle.workers_draw.proofs.crew.together.Goals as goal

pub returns : goal.returns
returns g c =
    let count = g.W.Work.count c.args.work.now in let gives = g.W.Work.gives c.args.work.now in let stops = g.W.Work.stops c.args.work.now in
    let v = c.args.one.seat.me.0 in let w = c.args.other.seat.me.0 in let one = c.requires.one in let other = c.requires.other in
    let new : c.join_seats.new.seat.me.0 ≡ both v w = ap (λ m. m.0) c.join_seats.ensures.1 in
    record {
      at = c.join_seats.ensures.0 ∙ one.at;
      empty_handed = ap (λ m. m.1) c.join_seats.ensures.1 ∙ one.empty_handed;
      share = ap (λ (h : Hand). h.parts) new;
      worked = subst₂ (λ (h : Hand) xs. Worked count gives h xs) (sym new) (sym c.in_ok-append.ensures.items) (joined count gives v w c.args.one.outputs.items c.args.other.outputs.items one.worked other.worked);
      right = subst (AreStops stops) (sym new) (both_stop stops v w one.right other.right);
      done = subst (IsDone count) (sym new) (still_done count v w one.done);
    }
