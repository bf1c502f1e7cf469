use Rattle.std.proofs.Common.{sym, ap, ◌∙◌}
use Rattle.std.proofs.lemmas.Result.{IfOk-weaker}
use Rattle.clmodel.specs.Tree.{Assign, tree_target, term}
use Rattle.lower_code.specs.Code.{stmt_code, result_in}
use Rattle.lower_code.specs.Emission.{functions_of}
use Rattle.lower_code.proofs.assignments.assignment.Goals as goal

pub returns-in-None-clause-code : goal.returns-in-None-clause-code
returns-in-None-clause-code c =
    let results = result_in (functions_of c.args.helpers.functions.now) in
    IfOk-weaker c.assign.result _ _ (λ split h calls inside kind depth site exits.
    h calls inside kind depth site
    ∙ ap (λ o. stmt_code calls results inside kind c.args.scope.now (Assign 0 (tree_target c.args.target.now) o (term c.args.value.now)) depth site exits) (sym c.in-None.is))
    c.assign.ensures.code

pub returns-in-Some-clause-code : goal.returns-in-Some-clause-code
returns-in-Some-clause-code c =
    let results = result_in (functions_of c.args.helpers.functions.now) in
    IfOk-weaker c.compound.result _ _ (λ split h calls inside kind depth site exits.
    h calls inside kind depth site
    ∙ ap (λ o. stmt_code calls results inside kind c.args.scope.now (Assign 0 (tree_target c.args.target.now) o (term c.args.value.now)) depth site exits) (sym c.in-Some.is))
    c.compound.ensures.code
