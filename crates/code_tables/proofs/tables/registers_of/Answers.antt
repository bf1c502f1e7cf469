use Rattle.std.proofs.Common.{◌∙◌, arith}
use Rattle.code_tables.proofs.Counted.{registers_grow, registers_end}
use Rattle.code_tables.proofs.tables.registers_of.Goals as goal

pub loop-register-preserved : goal.loop-register-preserved
loop-register-preserved c =
    c.in_ok-push.ensures.items
    ∙ registers_grow c.args.code.now c.in_ok-names.names.items c.loop-register.registers.items c.loop-register.register c.register_kind.result c.index.result.now
    c.in_ok-names.ensures (let l = c.len-register-end.ensures in let t = c.loop-register-test.true in omega (arith, l, t)) c.register_kind.ensures c.index.ensures c.loop-register.invariant

pub returns : goal.returns
returns c =
    registers_end c.args.code.now c.in_ok-names.names.items c.loop-register.registers.items c.loop-register.register
    c.in_ok-names.ensures
    (let l = c.len-register-end.ensures in let t = c.loop-register-test.false in let e = c.loop-register.auto.register-end in omega (arith, l, t, e)) c.loop-register.invariant
