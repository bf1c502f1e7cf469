use Rattle.std.proofs.Common.{◌≡◌, ◌++◌}
use Rattle.std.specs.Vec.Iter.{into_iter_items}
use Rattle.device.specs.Machine.{machine_of}
use Rattle.explaining.specs.Leading.{Leads}
use Rattle.explaining.proofs.walks.perform_all.Given as goal

abbrev pub invariant-loop-command : goal.invariant-loop-command
invariant-loop-command l = record {
  split : l.fn.commands.items ≡ l.yielded ++ into_iter_items l.command-iterator;
  led : Leads (machine_of l.initial.device) l.yielded (machine_of l.device) l.done.items;
}
