use Rattle.std.proofs.Common.{◌≡◌, max, drop}
use Rattle.code_tables.specs.Tables.{object_count}
use Rattle.code_tables.proofs.tables.object_count.Given as goal

abbrev pub invariant-loop-instruction : goal.invariant-loop-instruction
invariant-loop-instruction l = max l.count (object_count (drop l.instruction-index l.code)) ≡ object_count l.code
