-- Replies by their sorts (own).
use Rattle.std.specs.Prelude.{Bool, true, false}
use Rattle.host_commands.specs.declared.command.Reply.{Reply}
use Rattle.host_commands.specs.declared.command.Reply.TheVariants as reply

abbrev pub is_fault : Reply → Bool
is_fault (reply.Fault fault schedule) = true
is_fault reply.Done = false
is_fault (reply.Data bytes) = false
is_fault reply.Clean = false
is_fault reply.Ordered = false
is_fault (reply.Refused why) = false

abbrev pub is_refused : Reply → Bool
is_refused (reply.Refused why) = true
is_refused reply.Done = false
is_refused (reply.Data bytes) = false
is_refused reply.Clean = false
is_refused reply.Ordered = false
is_refused (reply.Fault fault schedule) = false
