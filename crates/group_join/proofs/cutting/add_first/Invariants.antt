use Rattle.group_join.proofs.Merged.{AddsPart}
use Rattle.group_join.proofs.cutting.add_first.Given as goal

abbrev pub invariant-loop-run : goal.invariant-loop-run
invariant-loop-run l = AddsPart l.initial.runs.items l.runs.items l.more l.run-index l.left l.count
