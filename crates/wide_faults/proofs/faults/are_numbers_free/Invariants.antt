use Rattle.std.proofs.Common.{◌≡◌, drop}
use Rattle.wide_faults.specs.Faults.{are_free, is_number}
use Rattle.wide_faults.proofs.faults.are_numbers_free.Given as goal

abbrev pub invariant-loop-index : goal.invariant-loop-index
invariant-loop-index l = are_free is_number l.arguments l.free ≡ are_free is_number (drop l.index l.arguments) (drop l.index l.free)
