use Rattle.std.proofs.Common.{◌≡◌, max, drop}
use Rattle.code_tables.specs.Tables.{register_count}
use Rattle.code_tables.proofs.tables.register_count.Given as goal

abbrev pub invariant-loop-instruction : goal.invariant-loop-instruction
invariant-loop-instruction l = max l.count (register_count (drop l.instruction-index l.code)) ≡ register_count l.code
