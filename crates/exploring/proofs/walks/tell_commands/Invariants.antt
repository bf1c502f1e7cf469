use Rattle.std.proofs.Common.{◌≡◌, ◌≤◌, ◌+◌, ◌++◌, length}
use Rattle.std.specs.Vec.Iter.{into_iter_items}
use Rattle.device.specs.Machine.{machine_of}
use Rattle.exploring.specs.Commands.{behind, first_spot}
use Rattle.exploring.proofs.Telling.{HasWritten}
use Rattle.exploring.proofs.walks.tell_commands.Given as goal

abbrev pub invariant-loop-command : goal.invariant-loop-command
invariant-loop-command g l = record {
  split : l.fn.commands.items ≡ l.yielded ++ into_iter_items l.command-iterator;
  spot : l.spot ≡ behind first_spot l.yielded;
  ticket : l.spot.ticket ≡ length l.yielded;
  number : l.spot.number ≤ length l.yielded + 1;
  written : HasWritten l.fn.options l.yielded (machine_of l.device) l.end (g.W.Write.sink l.initial.writer) (g.W.Write.sink l.writer);
}
