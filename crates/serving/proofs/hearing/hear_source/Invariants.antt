use Rattle.std.proofs.Common.{true}
use Rattle.serving.specs.Hearing.{HeardSource}
use Rattle.serving.proofs.hearing.hear_source.Given as goal

abbrev pub invariant-loop : goal.invariant-loop
invariant-loop g l = HeardSource (g.P.Peer.view l.initial.peer) (g.P.Peer.view l.peer) l.counter l.initial.text.items l.text.items true
