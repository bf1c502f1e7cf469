use Rattle.std.proofs.Common.{arith}
use Rattle.workers_draw.proofs.Steps.{lowers}
use Rattle.workers_draw.proofs.worker.lower.Goals as goal

pub fetch_min-requires : goal.fetch_min-requires
fetch_min-requires c =
    let b = c.requires.board in
    (b.0, (omega (arith, b.1)), lowers c.args.board.now.key c.args.board.now.table_id.slots c.args.seat.now.id c.args.seat.now.me c.args.group c.requires.part)
