use Rattle.std.proofs.Common.{[]}
use Rattle.device.specs.Machine.{machine_of}
use Rattle.byte_io.specs.Talk.{Conversation}
use Rattle.serving.specs.Serving.{HasLine}
use Rattle.cli.specs.Session.{end_of}
use Rattle.cli.specs.Serves.{Serves}
use Rattle.cli.proofs.dialogue.take_turns.Given as goal
use Rattle.limits.specs.declared.Configuration.{Configuration}

abbrev pub invariant-loop : goal.invariant-loop
invariant-loop g l = record {
  line : HasLine l.server;
  serves : (start : Conversation) (configuration : Configuration) → Serves start (g.P.Peer.view l.fn.peer) configuration l.fn.server (machine_of l.fn.device) (end_of []) → Serves start (g.P.Peer.view l.peer) configuration l.server (machine_of l.device) l.end;
}
