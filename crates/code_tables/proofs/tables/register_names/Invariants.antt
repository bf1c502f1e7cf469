use Rattle.std.proofs.Common.{◌≡◌, ℕ, drop, get_or, length}
use Rattle.code_tables.specs.Tables.{name_behind, register_name, register_count}
use Rattle.code_tables.proofs.tables.register_names.Given as goal

abbrev pub invariant-loop-instruction : goal.invariant-loop-instruction
invariant-loop-instruction l =
    (length l.names.items ≡ register_count l.code) ×
    ((register : ℕ) → name_behind (get_or l.names.items register 0) (drop l.instruction-index l.code) register ≡ register_name l.code register)
