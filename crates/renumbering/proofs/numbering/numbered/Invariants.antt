use Rattle.std.proofs.Common.{ℕ, List, Option, drop, map}
use Rattle.renumbering.specs.Numbers.{IsNumbering, Gives, no_number}
use Rattle.renumbering.specs.Renamed.{all_named}
use Rattle.renumbering.proofs.numbering.numbered.Given as goal

abbrev pub invariant-loop-instruction : goal.invariant-loop-instruction
invariant-loop-instruction l =
    IsNumbering l.old l.numbering.registers.items l.numbering.numbers.items ×
    ((final : List (Option ℕ)) → Gives l.old (all_named (drop l.instruction-index l.instructions)) l.numbering.numbers.items final → Gives l.old (all_named l.instructions) (map no_number l.old) final)
