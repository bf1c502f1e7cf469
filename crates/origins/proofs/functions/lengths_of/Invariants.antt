use Rattle.std.proofs.Common.{take}
use Rattle.origins.specs.Helpers.{LengthsKnown}
use Rattle.origins.proofs.functions.lengths_of.Given as goal

abbrev pub invariant-loop-i : goal.invariant-loop-i
invariant-loop-i l = LengthsKnown (take l.i l.functions) l.lengths.items
