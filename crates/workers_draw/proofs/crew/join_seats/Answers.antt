use Rattle.std.proofs.Common.{arith}
use Rattle.workers_draw.proofs.Steps.{joins}
use Rattle.workers_draw.proofs.crew.join_seats.Goals as goal

pub join_seat-requires : goal.join_seat-requires
join_seat-requires c =
    let b = c.requires.board in let o = c.requires.other in
    (b.0, o.0, o.1, (omega (arith, b.1)), joins c.args.board.now.key c.args.seat.now.id c.args.seat.now.me.0 c.args.other.id c.args.other.me.0)
