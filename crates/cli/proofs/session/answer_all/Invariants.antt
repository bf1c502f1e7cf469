use Rattle.std.proofs.Common.{◌≡◌, ◌++◌, length}
use Rattle.std.specs.Vec.Iter.{into_iter_items}
use Rattle.device.specs.Machine.{machine_of, opening}
use Rattle.cli.proofs.Sessions.{HasAnswered}
use Rattle.cli.proofs.session.answer_all.Given as goal
use Rattle.limits.specs.declared.Configuration.{Configuration}

abbrev pub invariant-loop-command : goal.invariant-loop-command
invariant-loop-command g l = record {
  split : l.fn.commands.items ≡ l.yielded ++ into_iter_items l.command-iterator;
  counts : length l.client.driver.driver.seat.me.0.known ≡ length l.yielded;
  answered : (configuration : Configuration) → machine_of l.initial.client.driver.driver.machine ≡ opening configuration → HasAnswered l.shows l.left configuration l.yielded (machine_of l.client.driver.driver.machine) (g.W.Write.sink l.initial.writer) (g.W.Write.sink l.writer) l.end;
}
