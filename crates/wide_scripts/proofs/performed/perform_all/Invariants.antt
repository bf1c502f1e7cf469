use Rattle.std.proofs.Common.{◌≡◌, ◌++◌}
use Rattle.std.specs.Vec.Iter.{into_iter_items}
use Rattle.device.specs.Machine.{machine_of, opening}
use Rattle.wide_scripts.specs.Notes.{AreNoted}
use Rattle.wide_scripts.proofs.performed.perform_all.Given as goal

abbrev pub invariant-loop-command : goal.invariant-loop-command
invariant-loop-command l = record {
  split : l.fn.commands.items ≡ l.yielded ++ into_iter_items l.command-iterator;
  led : AreNoted (opening l.fn.configuration) l.yielded l.replies.items l.notes.items (machine_of l.device);
}
