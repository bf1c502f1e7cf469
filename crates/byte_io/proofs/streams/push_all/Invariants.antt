use Rattle.byte_io.proofs.Puts.{HasPushed}
use Rattle.byte_io.proofs.streams.push_all.Given as goal

abbrev pub invariant-loop : goal.invariant-loop
invariant-loop g l = HasPushed (g.W.Write.contents l.initial.inner) (g.W.Write.contents l.inner) l.bytes l.rest
