use Rattle.explain_text.specs.Texts.{AreEvents}
use Rattle.explain_text.proofs.steps.end_of.Given as goal

abbrev pub invariant-loop-at : goal.invariant-loop-at
invariant-loop-at l = AreEvents l.steps l.from l.at
