use Rattle.std.proofs.Common.{◌≡◌, ◌++◌, [], ◌∷◌, ap, ◌∙◌}
use Rattle.std.proofs.lemmas.Result.{on_ok_weaker}
use Rattle.clmodel.specs.Tree.{Target}
use Rattle.lower_expr.specs.Expressions.{private_store, target_register}
use Rattle.lower_expr.specs.declared.emission.TargetKind.TheVariants as target
use Rattle.lower_expr.specs.Targets.{put_code}
use Rattle.lower_expr.specs.Targets.{destination_of}
use Rattle.lower_expr.proofs.Targets.{put_at}
use Rattle.lower_expr.proofs.destinations.put.Goals as goal

pub returns-in-Index-clause-code : goal.returns-in-Index-clause-code
returns-in-Index-clause-code c =
    let scope = c.args.scope.now in
    let old = c.args.code.now.items in
    let d = c.args.destination in
    let from = c.args.from.0 in
    let level = c.args.level.0 in
    on_ok_weaker {Q = (place : Target) → d ≡ destination_of scope place → c.private_store.new.code.items ≡ old ++ put_code scope place (target_register scope level place) from} c.private_store.result
    (λ h place e.
    h ∙ ap (λ n. old ++ private_store scope d.name n from ∷ []) c.register_at-index.ensures
    ∙ ap (λ xs. old ++ xs) (put_at scope place d (target.Index c.in-Index.index) level from e c.in-Index.is))
    c.private_store.ensures.code
