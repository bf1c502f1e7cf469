use Rattle.fault_play.specs.PlayedOut.{IsLastEvent}
use Rattle.explain_reasons.specs.Between.{passes_at}
use Rattle.explain_reasons.proofs.reasons.release_between.Given as goal

abbrev pub invariant-loop-number : goal.invariant-loop-number
invariant-loop-number l = IsLastEvent (passes_at l.marks l.group l.from l.to) l.number l.last
