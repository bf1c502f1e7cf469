use Rattle.group_traces.proofs.Keeping.{none_at}
use Rattle.group_traces.proofs.traces.Traces.clear.Goals as goal

pub returns : goal.returns
returns c = none_at c.clear.new.self c.clear-2.new.self.items c.clear-3.new.self.items c.clear.ensures.empty
