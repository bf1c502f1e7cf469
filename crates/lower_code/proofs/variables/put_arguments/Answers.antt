use Rattle.std.proofs.Common.{◌≡◌, ◌+◌, ◌-◌, ◌++◌, length, drop, ap, sym, ◌∙◌, arith}
use Rattle.lower_code.specs.Variables.{arguments_code}
use Rattle.lower_code.proofs.Parameters.{drop_all, arguments_more}
use Rattle.lower_code.proofs.variables.put_arguments.Goals as goal

pub loop-i-init : goal.loop-i-init
loop-i-init c =
    let ps = c.args.parameters.now in
    let n = length ps - 0 in
    sym (ap (λ qs. arguments_code qs n ++ c.args.code.now) (drop_all ps n (omega arith)))

pub loop-i-preserved : goal.loop-i-preserved
loop-i-preserved c =
    let ps = c.args.parameters.now in
    let n = length ps - 1 - c.loop-i.i in
    c.in_ok-put.ensures.code
    ∙ arguments_more ps _ c.register_at-to.result.0 c.level_at-at.result.0 n (length ps - c.loop-i.i) (length ps - (c.loop-i.i + 1)) c.loop-i.code c.args.code.now
    (omega (arith, c.loop-i-test.true)) (omega (arith, c.loop-i-test.true)) (omega arith) (omega (arith, c.level_at-at.ensures)) c.register_at-to.ensures c.loop-i.invariant

pub returns-clause-code : goal.returns-clause-code
returns-clause-code c =
    let ps = c.args.parameters.now in
    let none : length ps - c.loop-i.i ≡ 0 = omega (arith, c.loop-i-test.false) in
    c.loop-i.invariant ∙ ap (λ n. arguments_code (drop n ps) n ++ c.args.code.now) none
