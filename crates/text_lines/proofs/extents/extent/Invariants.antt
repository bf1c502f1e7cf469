use Rattle.std.proofs.Common.{length, ◌-◌, ◌≤◌}
use Rattle.text_lines.proofs.extents.extent.Given as goal

abbrev pub invariant-loop-next : goal.invariant-loop-next
invariant-loop-next l = (l.at ≤ l.end) × (l.end ≤ l.next) × (l.next ≤ length l.source)

abbrev pub decreases-loop-next : goal.decreases-loop-next
decreases-loop-next l = length l.source - l.next
