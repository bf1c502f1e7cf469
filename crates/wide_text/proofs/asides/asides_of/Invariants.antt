use Rattle.wide_text.specs.Told.{AreAsides}
use Rattle.wide_text.proofs.asides.asides_of.Given as goal

abbrev pub invariant-loop-deciding : goal.invariant-loop-deciding
invariant-loop-deciding l = AreAsides l.out.items
