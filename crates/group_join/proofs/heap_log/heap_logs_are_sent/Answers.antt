use denote.Param.SendFields.{declared_send}
use Rattle.std.proofs.Crossing.{Box-send}
use Rattle.group_log.specs.contracts.group.GroupLog as GroupLog
use Rattle.group_join.specs.contracts.heap_log.HeapLog as HeapLog
use Rattle.group_join.proofs.heap_log.heap_logs_are_sent.Goals as goal

pub returns : goal.returns
returns c = declared_send HeapLog.the_type (Box-send GroupLog.the_row c.logs_are_sent.ensures, tt)
