use Rattle.std.proofs.Common.{arith}
use Rattle.workers_draw.proofs.Steps.{draws}
use Rattle.workers_draw.proofs.worker.draw.Goals as goal

pub fetch_add-requires : goal.fetch_add-requires
fetch_add-requires c =
    let b = c.requires.board in
    (b.0, (omega (arith, b.1)), draws c.args.board.now.key c.args.board.now.table_id.slots c.args.seat.now.id c.args.seat.now.me b.2 c.requires.room)
