use denote.Param.Send.{sendable}
use denote.Param.SendFields.{declared_send}
use Rattle.group_log.specs.contracts.side.Side as Side
use Rattle.group_log.proofs.sent.sides_are_sent.Goals as goal

pub returns : goal.returns
returns c =
    declared_send Side.the_type (search sendable, (search sendable, (c.progressions_are_sent.ensures, (search sendable, (c.traces_are_sent.ensures, (search sendable, tt))))))
