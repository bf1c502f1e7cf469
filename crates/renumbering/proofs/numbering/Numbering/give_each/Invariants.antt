use Rattle.std.proofs.Common.{ℕ, List, Option, drop}
use Rattle.renumbering.specs.Numbers.{IsNumbering, Gives, listed}
use Rattle.renumbering.proofs.numbering.Numbering.give_each.Given as goal

abbrev pub invariant-loop-register : goal.invariant-loop-register
invariant-loop-register l =
    IsNumbering l.old l.self.registers.items l.self.numbers.items ×
    ((final : List (Option ℕ)) → Gives l.old (listed (drop l.register-index l.registers)) l.self.numbers.items final → Gives l.old (listed l.registers) l.initial.self.numbers.items final)
