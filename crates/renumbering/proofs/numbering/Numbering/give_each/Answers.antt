use Rattle.std.proofs.Common.{◌+◌, drop, subst, sym, arith}
use Rattle.renumbering.specs.Numbers.{IsNumbering, Gives, listed}
use Rattle.renumbering.specs.declared.numbering.Numbering.{Numbering}
use Rattle.renumbering.proofs.Coverage.{rest_with, rest_without}
use Rattle.renumbering.proofs.numbering.Numbering.give_each.Goals as goal
use Rattle.renumbering.proofs.numbering.Numbering.give_each.Goals.{in-Some+in_ok-give, in_default}

pub loop-register-preserved : goal.loop-register-preserved
loop-register-preserved c =
    let i = c.loop-register.register-index in
    elim c.match-register.branch [
      | in-Some+in_ok-give w ↦ (
        subst (λ (s : Numbering). IsNumbering c.args.old.now s.registers.items s.numbers.items) (sym w.self-is) w.in_ok-give.ensures.numbering,
        λ final rest. c.loop-register.invariant.1 final
            (rest_with c.args.old.now c.args.registers.now i (i + 1) w.in-Some.register c.loop-register.self.numbers.items w.give.new.self.numbers.items final (omega arith) (omega arith) w.in-Some.is w.in_ok-give.ensures.given
            (subst (λ (s : Numbering). Gives c.args.old.now (listed (drop (i + 1) c.args.registers.now)) s.numbers.items final) w.self-is rest)),
      )
      | in_default w ↦ (
        subst (λ (s : Numbering). IsNumbering c.args.old.now s.registers.items s.numbers.items) (sym w.self-is) c.loop-register.invariant.0,
        λ final rest. c.loop-register.invariant.1 final
            (rest_without c.args.old.now c.args.registers.now i (i + 1) c.loop-register.self.numbers.items final (omega arith) (omega arith) w.in_default.is
            (subst (λ (s : Numbering). Gives c.args.old.now (listed (drop (i + 1) c.args.registers.now)) s.numbers.items final) w.self-is rest)),
      )
    ]
