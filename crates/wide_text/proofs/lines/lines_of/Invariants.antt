use Rattle.wide_text.proofs.Flagged.{Gathers}
use Rattle.wide_text.proofs.lines.lines_of.Given as goal

abbrev pub invariant-loop-number : goal.invariant-loop-number
invariant-loop-number l = Gathers l.flags l.places l.lines.items l.number
