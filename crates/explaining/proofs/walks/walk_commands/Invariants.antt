use Rattle.std.proofs.Common.{◌≡◌, ◌++◌, length, replicate, true}
use Rattle.std.specs.Vec.Iter.{into_iter_items}
use Rattle.device.specs.Machine.{machine_of}
use Rattle.explaining.specs.Leading.{LeadsThrough}
use Rattle.explaining.proofs.walks.walk_commands.Given as goal

abbrev pub invariant-loop-command : goal.invariant-loop-command
invariant-loop-command l = record {
  split : l.fn.commands.items ≡ l.yielded ++ into_iter_items l.command-iterator;
  counted : length l.done.items ≡ length l.yielded;
  noted : l.done.items ≡ replicate (length l.yielded) true;
  led : LeadsThrough (machine_of l.initial.device) l.yielded (machine_of l.device) l.ordered;
}
