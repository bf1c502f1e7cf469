use denote.Param.Send.{IsSend, sendable}
use denote.Param.SendFields.{declared_send}
use Rattle.group_log.specs.contracts.progressions.Progressions.TheInside as Inside
use Rattle.group_log.proofs.progressions_sent.progressions_are_sent.Goals as goal

pub returns : goal.returns
returns c =
    let inside : IsSend Inside.the_row = declared_send Inside.the_type (search sendable, (search sendable, (search sendable, (search sendable, tt)))) in
    search (sendable, inside)
