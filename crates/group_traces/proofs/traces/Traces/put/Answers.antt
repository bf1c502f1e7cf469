use Rattle.std.proofs.Common.{◌<◌, length, arith}
use Rattle.group_traces.proofs.Keeping.{word_put}
use Rattle.group_traces.proofs.traces.Traces.put.Goals as goal

pub returns-clause-cells : goal.returns-clause-cells
returns-clause-cells c =
    let w = c.index_mut.result.now in
    let room : c.args.n < length w.words = omega arith in
    word_put c.args.self.now.cells.items c.args.i c.args.n w c.args.word c.requires.inside c.index_mut.ensures.value room
