use Rattle.group_traces.proofs.Keeping.{none_at}
use Rattle.group_traces.proofs.traces.Traces.new.Goals as goal

pub returns : goal.returns
returns c = none_at c.new.result c.new-2.result.items c.new-3.result.items c.new.ensures.empty
