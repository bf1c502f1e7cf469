use denote.Param.Send.{sendable}
use denote.Param.SendFields.{declared_send}
use Rattle.group_log.specs.contracts.lasting.Lasting as Lasting
use Rattle.group_log.proofs.sent.lasting_accesses_are_sent.Goals as goal

pub returns : goal.returns
returns c = declared_send Lasting.the_type (c.progressions_are_sent.ensures, (search sendable, tt))
