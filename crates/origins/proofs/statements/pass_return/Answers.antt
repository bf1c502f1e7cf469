use Rattle.std.proofs.Common.{ℕ, ◌++◌, Option, Bor, sym, ap, subst, ◌∙◌}
use Rattle.std.proofs.lemmas.List.{append_assoc}
use Rattle.clmodel.specs.Tree.{term}
use Rattle.clmodel.specs.declared.tree.Expression.{Expression}
use Rattle.lower_code.specs.Emission.{test_of}
use Rattle.origins.specs.Origins.{node_of, times, expr_origins}
use Rattle.origins.specs.Settings.{return_in}
use Rattle.origins.specs.Walks.{Walks}
use Rattle.origins.proofs.Settling.{settle}
use Rattle.origins.proofs.statements.pass_return.Goals as goal

pub returns-in-None : goal.returns-in-None
returns-in-None c inside =
    let n = node_of c.args.node in
    subst (λ (o : Option (Bor Expression)). Walks inside (return_in c.args.setting c.args.names.now (test_of o) n) c.args.left c.then_own.result) (sym c.in-None.is)
    (settle _ _ _ _ _ (ap (λ (k : ℕ). times k n ++ times 1 n) c.value_count.ensures) (c.then_own.ensures inside _ _ (c.pass_own.ensures inside)))

pub returns-in-Some : goal.returns-in-Some
returns-in-Some c inside =
    let n = node_of c.args.node in
    let e = expr_origins c.args.names.now (term c.in-Some.value.now) in
    subst (λ (o : Option (Bor Expression)). Walks inside (return_in c.args.setting c.args.names.now (test_of o) n) c.args.left c.then_own-in-Some-2.result) (sym c.in-Some.is)
    (settle _ _ _ _ _
    (append_assoc e (times c.value_count-in-Some.result n) (times 1 n) ∙ ap (λ (k : ℕ). e ++ (times k n ++ times 1 n)) c.value_count-in-Some.ensures)
    (c.then_own-in-Some-2.ensures inside _ _ (c.then_own-in-Some.ensures inside _ _ (c.pass_expression-valued.ensures inside))))
