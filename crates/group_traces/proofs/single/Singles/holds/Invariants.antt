use Rattle.std.proofs.Common.{ℕ, ◌%◌, ◌<◌, ◌≤◌}
use Rattle.shadow.specs.Seen.{mark_of}
use Rattle.group_traces.specs.Traces.{HoldsByte}
use Rattle.group_traces.proofs.single.Singles.holds.Given as goal

abbrev pub invariant-loop-byte : goal.invariant-loop-byte
invariant-loop-byte l = (b : ℕ) → l.first ≤ b → b < l.byte → HoldsByte l.self (b % 4) (mark_of l.x b)
