use Rattle.std.proofs.Common.{◌<◌, length, arith}
use Rattle.shadow.proofs.Cells.{part_marked}
use Rattle.shadow.proofs.words.mark_in.Goals as goal

pub returns-clause-marked : goal.returns-clause-marked
returns-clause-marked c =
    let inside : c.args.k < length c.args.bytes.now = omega arith in
    part_marked c.args.bytes.now c.args.k c.seen_with.result c.args.mark inside c.seen_with.ensures
