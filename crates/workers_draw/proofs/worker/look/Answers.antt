use Rattle.std.proofs.Common.{arith}
use Rattle.workers_draw.proofs.Steps.{looks}
use Rattle.workers_draw.proofs.worker.look.Goals as goal

pub load-requires : goal.load-requires
load-requires c =
    let b = c.requires.board in
    (b.0, (omega (arith, b.1)), looks c.args.board.now.key c.args.board.now.table_id.slots c.args.seat.now.id c.args.seat.now.me)
