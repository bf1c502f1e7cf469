use Rattle.std.proofs.Common.{◌≡◌}
use Rattle.code_tables.specs.Tables.{each_below, register_in}
use Rattle.code_tables.proofs.tables.registers_of.Given as goal

abbrev pub invariant-loop-register : goal.invariant-loop-register
invariant-loop-register l = l.registers.items ≡ each_below (register_in l.code) l.register
