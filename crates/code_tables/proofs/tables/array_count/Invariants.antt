use Rattle.std.proofs.Common.{◌≡◌, max, drop}
use Rattle.code_tables.specs.Tables.{array_count}
use Rattle.code_tables.proofs.tables.array_count.Given as goal

abbrev pub invariant-loop-instruction : goal.invariant-loop-instruction
invariant-loop-instruction l = max l.count (array_count (drop l.instruction-index l.code)) ≡ array_count l.code
