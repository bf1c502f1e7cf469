use Rattle.std.proofs.Common.{ℕ, ◌<◌, [], slice_index_or}
use Rattle.explore_runs.specs.Apart.{AreAlike}
use Rattle.explore_runs.proofs.apart.first_apart.Given as goal

abbrev pub invariant-loop-buffer : goal.invariant-loop-buffer
invariant-loop-buffer l = (a : ℕ) → a < l.buffer → AreAlike (slice_index_or l.one a []) (slice_index_or l.other a [])
