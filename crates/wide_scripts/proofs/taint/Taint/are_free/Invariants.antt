use Rattle.std.proofs.Common.{◌≡◌, drop}
use Rattle.wide_scripts.specs.Notes.{are_free, marked}
use Rattle.wide_scripts.proofs.taint.Taint.are_free.Given as goal

abbrev pub invariant-loop-number : goal.invariant-loop-number
invariant-loop-number l =
    are_free (marked l.self.marks) l.names l.free ≡ are_free (marked l.self.marks) (drop l.number l.names) (drop l.number l.free)
