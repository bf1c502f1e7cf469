use Rattle.std.proofs.Common.{◌≡◌, ℕ, ◌+◌, ◌<◌, ◌≤◌}
use Rattle.std.specs.Prelude.{slice_index_or}
use Rattle.group_log.specs.Progressions.{entry_at, no_entry}
use Rattle.group_log.proofs.rounds.is_told.Given as goal

abbrev pub invariant-loop-k : goal.invariant-loop-k
invariant-loop-k l = (k : ℕ) → l.progression.period ≤ k → k < l.k → entry_at l.heads l.steps l.progression.head l.progression.period l.progression.step k ≡ slice_index_or l.heads (l.progression.head + k) no_entry
