use Rattle.std.proofs.Common.{◌≡◌, ◌≢◌, ℕ, ◌-◌, ◌<◌, ◌≤◌, slice_index}
use Rattle.text_lines.proofs.lines.begin_of.Given as goal

abbrev pub invariant-loop-i : goal.invariant-loop-i
invariant-loop-i l = (l.begin ≤ l.i) × (0 < l.begin → slice_index l.front (l.begin - 1) ≡ 10) × ((k : ℕ) → l.begin ≤ k → k < l.i → slice_index l.front k ≢ 10)
