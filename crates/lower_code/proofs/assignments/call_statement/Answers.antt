use Rattle.std.proofs.Common.{sym, ap₂, ◌∙◌}
use Rattle.std.proofs.lemmas.Result.{IfOk-weaker}
use Rattle.clmodel.specs.Tree.{terms}
use Rattle.lower_code.specs.Code.{call_only_statement}
use Rattle.lower_code.proofs.assignments.call_statement.Goals as goal

pub returns-in-Some-clause-code : goal.returns-in-Some-clause-code
returns-in-Some-clause-code c =
    IfOk-weaker c.call_built_in.result _ _ (λ split h calls results inside kind.
    h calls results inside kind c.args.name c.args.position.depth c.args.position.site
    ∙ ap₂ (λ b f. call_only_statement calls results inside kind c.args.scope.now b f c.args.name (terms c.args.arguments.now) c.args.position.depth c.args.position.site)
    (sym c.if-is_barrier.false ∙ c.is_barrier.ensures) (sym c.in-Some.is ∙ c.built_in_named.ensures))
    c.call_built_in.ensures.code

pub returns-in-None-clause-code : goal.returns-in-None-clause-code
returns-in-None-clause-code c =
    IfOk-weaker c.call_helper.result _ _ (λ split h calls results inside kind.
    h calls results inside kind c.args.position.depth c.args.position.site
    ∙ ap₂ (λ b f. call_only_statement calls results inside kind c.args.scope.now b f c.args.name (terms c.args.arguments.now) c.args.position.depth c.args.position.site)
    (sym c.if-is_barrier.false ∙ c.is_barrier.ensures) (sym c.in-None.is ∙ c.built_in_named.ensures))
    c.call_helper.ensures.code
