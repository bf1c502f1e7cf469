use Rattle.group_traces.proofs.Keeping.{part_put}
use Rattle.group_traces.proofs.traces.Traces.write_apart.Goals as goal

pub returns-clause-apart : goal.returns-clause-apart
returns-clause-apart c =
    part_put c.args.x.now c.args.first c.args.count c.args.at c.args.self.now.apart.items c.index_mut-own.result.now c.bytes_with-own.result c.requires.there c.index_mut-own.ensures.value c.bytes_with-own.ensures
