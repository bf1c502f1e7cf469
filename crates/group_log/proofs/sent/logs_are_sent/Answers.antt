use denote.Param.Send.{sendable}
use denote.Param.SendFields.{declared_send}
use Rattle.group_log.specs.contracts.group.GroupLog as GroupLog
use Rattle.group_log.proofs.sent.logs_are_sent.Goals as goal

pub returns : goal.returns
returns c = declared_send GroupLog.the_type (c.sides_are_sent.ensures, (c.sides_are_sent.ensures, (c.lasting_accesses_are_sent.ensures, (search sendable, tt))))
