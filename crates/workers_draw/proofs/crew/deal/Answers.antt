use Rattle.std.proofs.Common.{arith, ap}
use Rattle.workers_draw.specs.declared.board.Hand.{Hand}
use Rattle.workers_draw.proofs.Steps.{deals}
use Rattle.workers_draw.proofs.crew.deal.Goals as goal

pub split_seat-requires : goal.split_seat-requires
split_seat-requires c =
    let b = c.requires.board in let v = c.args.seat.now.me.0 in let f = ap (λ m. m.0) c.requires.fresh.1 in
    (c.requires.fresh.0, (omega (arith, b)), deals c.args.board.now.key c.args.seat.now.id v c.requires.some (ap (λ (h : Hand). h.drawn) f) (ap (λ (h : Hand). h.stopped) f))
