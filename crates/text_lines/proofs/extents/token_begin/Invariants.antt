use Rattle.std.proofs.Common.{length, ◌-◌, ◌≤◌}
use Rattle.text_lines.proofs.extents.token_begin.Given as goal

abbrev pub invariant-loop-at : goal.invariant-loop-at
invariant-loop-at l = (l.fn.at ≤ l.at) × (l.at ≤ length l.source)

abbrev pub decreases-loop-at : goal.decreases-loop-at
decreases-loop-at l = length l.source - l.at
