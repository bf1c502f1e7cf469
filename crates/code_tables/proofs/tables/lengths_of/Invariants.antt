use Rattle.std.proofs.Common.{◌≡◌, ℕ, max, drop, get_or, length}
use Rattle.code_tables.specs.Tables.{most_at, array_count}
use Rattle.code_tables.proofs.tables.lengths_of.Given as goal

abbrev pub invariant-loop-instruction : goal.invariant-loop-instruction
invariant-loop-instruction l =
    (length l.lengths.items ≡ array_count l.code) ×
    ((array : ℕ) → max (get_or l.lengths.items array 0) (most_at (drop l.instruction-index l.code) array) ≡ most_at l.code array)
