use denote.Param.Send.{sendable}
use denote.Param.SendFields.{declared_send}
use Rattle.group_traces.specs.contracts.traces.Traces as Traces
use Rattle.group_traces.proofs.sent.traces_are_sent.Goals as goal

pub returns : goal.returns
returns c = declared_send Traces.the_type (search sendable, (search sendable, (search sendable, tt)))
