use Rattle.std.proofs.Common.{ℕ, ◌+◌, Option, List, [], subst, sym, arith}
use Rattle.regcode.specs.declared.tables.Register.{Register}
use Rattle.renumbering.specs.Numbers.{IsNumbering, Gives, listed}
use Rattle.renumbering.specs.Renamed.{all_named}
use Rattle.renumbering.proofs.Coverage.{rest_named}
use Rattle.renumbering.proofs.Numbers.{no_numbers}
use Rattle.renumbering.proofs.numbering.numbered.Goals as goal

pub loop-instruction-init : goal.loop-instruction-init
loop-instruction-init c = (
  subst (λ (rs : List Register). IsNumbering c.args.old.now rs c.in_ok-no_numbers.field-0.items) (sym c.new.ensures.items)
      (subst (IsNumbering c.args.old.now []) (sym c.in_ok-no_numbers.ensures) (no_numbers c.args.old.now)),
  λ final rest. subst (λ (numbers : List (Option ℕ)). Gives c.args.old.now (all_named c.args.instructions.now) numbers final) c.in_ok-no_numbers.ensures rest,
)

pub loop-instruction-preserved : goal.loop-instruction-preserved
loop-instruction-preserved c =
    let i = c.loop-instruction.instruction-index in (
      c.give_each.ensures.numbering,
      λ final rest. c.loop-instruction.invariant.1 final
          (rest_named c.args.old.now c.args.instructions.now i (i + 1) c.instruction-item.result (listed c.named.result) c.loop-instruction.numbering.numbers.items c.give_each.new.self.numbers.items final
          (omega arith) (omega arith) c.instruction-item.is c.named.ensures c.in_ok-give_each.ensures.given rest),
    )
