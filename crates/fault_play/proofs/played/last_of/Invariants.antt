use Rattle.fault_play.specs.PlayedOut.{IsLastEvent, acts_at}
use Rattle.fault_play.proofs.played.last_of.Given as goal

abbrev pub invariant-loop-number : goal.invariant-loop-number
invariant-loop-number l = IsLastEvent (acts_at l.marks l.item) l.number l.last
