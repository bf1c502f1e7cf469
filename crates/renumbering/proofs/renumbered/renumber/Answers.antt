use Rattle.std.proofs.Common.{List, map, refl, ap, subst, sym, ◌∙◌}
use Rattle.std.proofs.lemmas.Bool.{false≢true}
use Rattle.regcode.specs.declared.instruction.Instruction.{Instruction}
use Rattle.renumbering.specs.Numbers.{number_of, no_number, Gives}
use Rattle.renumbering.specs.Renamed.{renamed, all_named}
use Rattle.renumbering.specs.Same.{IsRenumbered}
use Rattle.renumbering.proofs.Whole.{renumbered, accepted, unchanged}
use Rattle.renumbering.proofs.renumbered.renumber.Goals as goal

pub returns-in-Ok : goal.returns-in-Ok
returns-in-Ok c =
    let tables = c.in_ok-tables.ensures in
    let numbers = c.in_ok-numbering.numbering.numbers.items in
    subst (IsRenumbered c.args.code) (sym c.in-Ok.ensures.code)
    (renumbered c.args.code c.tables-old.result.now c.in_ok-tables.tables c.in_ok-instructions.instructions.items numbers
    c.deref.result.now c.in_ok-numbering.numbering.registers.items c.tables-old.ensures c.deref.ensures.value c.in_ok-numbering.ensures.numbering
    (subst (λ (is : List Instruction). Gives c.deref.result.now (all_named is) (map no_number c.deref.result.now) numbers) c.instructions.ensures.value c.in_ok-numbering.ensures.given)
    (c.in_ok-instructions.ensures ∙ ap (map (renamed (number_of numbers))) c.instructions-2.ensures.value)
    tables.registers tables.arrays tables.objects tables.names tables.parameters tables.loops (c.in-Ok.ensures.exact.0 refl))

pub returns-in-Err-Rejected : goal.returns-in-Err-Rejected
returns-in-Err-Rejected c =
    let tables = c.in_ok-tables.ensures in
    let numbers = c.in_ok-numbering.numbering.numbers.items in
    unchanged c.args.code
    (λ few. false≢true (c.in-Err-Rejected.ensures.exact.1
    (accepted c.args.code c.tables-old.result.now c.in_ok-tables.tables c.in_ok-instructions.instructions.items numbers
    c.deref.result.now c.in_ok-numbering.numbering.registers.items c.tables-old.ensures c.deref.ensures.value c.in_ok-numbering.ensures.numbering
    (subst (λ (is : List Instruction). Gives c.deref.result.now (all_named is) (map no_number c.deref.result.now) numbers) c.instructions.ensures.value c.in_ok-numbering.ensures.given)
    (c.in_ok-instructions.ensures ∙ ap (map (renamed (number_of numbers))) c.instructions-2.ensures.value)
    tables.registers tables.arrays tables.objects tables.names tables.parameters tables.loops c.instructions.ensures.verified few)))
