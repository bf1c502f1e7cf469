use Rattle.std.proofs.Common.{◌≡◌, ◌++◌, drop}
use Rattle.code_tables.specs.Tables.{loops_from}
use Rattle.code_tables.proofs.tables.loops_of.Given as goal

abbrev pub invariant-loop-instruction : goal.invariant-loop-instruction
invariant-loop-instruction l = l.loops.items ++ loops_from l.depth (drop l.instruction-index l.code) ≡ loops_from 0 l.code
