use Rattle.std.proofs.Common.{◌≡◌, max, drop}
use Rattle.code_tables.specs.Tables.{greatest, names_of, name_count}
use Rattle.code_tables.proofs.tables.name_count.Given as goal

abbrev pub invariant-loop-instruction : goal.invariant-loop-instruction
invariant-loop-instruction l = max l.count (greatest names_of (drop l.instruction-index l.code)) ≡ name_count l.code
