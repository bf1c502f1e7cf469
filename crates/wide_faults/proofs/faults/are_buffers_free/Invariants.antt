use Rattle.std.proofs.Common.{◌≡◌, drop}
use Rattle.wide_faults.specs.Faults.{are_free, is_any}
use Rattle.wide_faults.proofs.faults.are_buffers_free.Given as goal

abbrev pub invariant-loop-number : goal.invariant-loop-number
invariant-loop-number l = are_free is_any l.names l.free ≡ are_free is_any (drop l.number l.names) (drop l.number l.free)
