use Rattle.std.proofs.Common.{◌∷◌, ◌++◌, ap, ◌∙◌}
use Rattle.std.proofs.lemmas.Result.{on_ok_weaker}
use Rattle.clmodel.specs.Tree.{term}
use Rattle.regcode.specs.declared.instruction.Instruction.TheVariants as instruction
use Rattle.lower_expr.specs.Scope.{free_level, register_at}
use Rattle.lower_expr.specs.Expressions.{expr_code}
use Rattle.lower_code.proofs.loops.put_test.Goals as goal

pub returns-clause-code : goal.returns-clause-code
returns-clause-code c =
    let scope = c.args.scope.now in
    let test = term c.args.test.now in
    let level = c.free_level-level.ensures in
    let code = c.in_ok-kind.ensures.code ∙ ap (λ xs. xs ++ expr_code scope c.free_level-level.result.0 test) c.new-front.ensures.items ∙ ap (λ l. expr_code scope l test) level in
    let register = c.register_at-test.ensures ∙ ap (λ l. register_at l c.in_ok-kind.kind) level ∙ ap (register_at (free_level scope)) c.in_ok-kind.ensures.kind in
    on_ok_weaker c.put_all.result (λ h.
    h ∙ ap (λ xs. xs ++ c.put.new.self) code
    ∙ ap (λ xs. expr_code scope (free_level scope) test ++ xs) (c.in_ok-put.ensures.code ∙ ap (λ r. instruction.JumpIfZero r c.args.by ∷ c.args.code.now) register))
    c.put_all.ensures.code
