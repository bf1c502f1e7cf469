use Rattle.explain_reasons.specs.Stored.{IsNearestOf}
use Rattle.explain_reasons.proofs.unset.nearest_store.Given as goal

abbrev pub invariant-loop-number : goal.invariant-loop-number
invariant-loop-number l = IsNearestOf l.touches l.location l.side l.byte l.number l.near
