use Rattle.std.proofs.Common.{◌≡◌, [], ◌++◌, length, string_bytes}
use Rattle.std.specs.Vec.Iter.{into_iter_items}
use Rattle.device.specs.Machine.{machine_of}
use Rattle.explaining.specs.Leading.{IsMet}
use Rattle.explaining.specs.Whole.{TellsEach}
use Rattle.explaining.proofs.every.tell_commands.Given as goal

abbrev pub invariant-loop-command : goal.invariant-loop-command
invariant-loop-command l = record {
  split : l.fn.same.items ≡ l.yielded ++ into_iter_items l.command-iterator;
  counted : length l.done.items ≡ length l.yielded;
  each : TellsEach l.fn.script.options l.fn.script.given.name.now l.fn.script.told l.fn.script.commands.now [] (machine_of l.initial.device) l.yielded (machine_of l.device) l.done.items (string_bytes l.text);
  met : IsMet (machine_of l.initial.device) l.fn.same.items l.yielded (machine_of l.device) l.met.end l.met.ordered;
}
