use Rattle.std.proofs.Common.{◌≡◌, ◌+◌, ◌-◌, ◌++◌, length, drop, ap, sym, ◌∙◌, arith}
use Rattle.std.proofs.lemmas.List.{drop-map}
use Rattle.lower_expr.specs.Registers.{numbers}
use Rattle.lower_expr.specs.declared.scope.RegisterNumber.{RegisterNumber}
use Rattle.lower_code.specs.Variables.{pass_code}
use Rattle.lower_code.proofs.Parameters.{drop_all, passed_more}
use Rattle.lower_code.proofs.variables.put_passed.Goals as goal

pub loop-i-init : goal.loop-i-init
loop-i-init c =
    let ps = c.args.parameters.now in
    let n = length ps - 0 in
    sym (ap (λ qs. pass_code qs (drop n (numbers c.args.arguments.now)) (c.args.level.0 + n) ++ c.args.code.now) (drop_all ps n (omega arith)))

pub loop-i-preserved : goal.loop-i-preserved
loop-i-preserved c =
    let ps = c.args.parameters.now in
    let n = length ps - 1 - c.loop-i.i in
    let rest = sym (drop-map (λ (r : RegisterNumber). r.0) n c.args.arguments.now) in
    c.in_ok-put.ensures.code
    ∙ passed_more c.pass_one.result ps _ (numbers c.args.arguments.now) (numbers (drop n c.args.arguments.now)) c.args.level.0 c.level_at-at.result.0 n (length ps - c.loop-i.i) (length ps - (c.loop-i.i + 1)) c.loop-i.code c.args.code.now
    (omega (arith, c.loop-i-test.true)) (omega (arith, c.loop-i-test.true)) (omega arith) c.level_at-at.ensures rest c.pass_one.ensures c.loop-i.invariant

pub returns-clause-code : goal.returns-clause-code
returns-clause-code c =
    let ps = c.args.parameters.now in
    let none : length ps - c.loop-i.i ≡ 0 = omega (arith, c.loop-i-test.false) in
    let same : c.args.level.0 + 0 ≡ c.args.level.0 = omega arith in
    c.loop-i.invariant
    ∙ ap (λ n. pass_code (drop n ps) (drop n (numbers c.args.arguments.now)) (c.args.level.0 + n) ++ c.args.code.now) none
    ∙ ap (λ l. pass_code ps (numbers c.args.arguments.now) l ++ c.args.code.now) same
