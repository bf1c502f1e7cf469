use Rattle.wide_scripts.specs.Notes.{marked}
use Rattle.wide_scripts.proofs.Marks.{Goes}
use Rattle.wide_scripts.proofs.walks.walk.Given as goal

abbrev pub invariant-loop-place : goal.invariant-loop-place
invariant-loop-place l = Goes (marked l.taint.marks) l.notes l.free l.reads.items l.place
