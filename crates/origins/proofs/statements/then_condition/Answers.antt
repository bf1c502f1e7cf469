use Rattle.std.proofs.Common.{◌++◌, Option, Bor, sym, subst}
use Rattle.std.proofs.lemmas.List.{append_assoc, append-nil}
use Rattle.clmodel.specs.Tree.{term}
use Rattle.clmodel.specs.declared.tree.Expression.{Expression}
use Rattle.lower_code.specs.Emission.{test_of}
use Rattle.origins.specs.Origins.{node_of, times, expr_origins, condition_origins}
use Rattle.origins.specs.Walks.{Walks}
use Rattle.origins.proofs.Settling.{settle}
use Rattle.origins.proofs.statements.then_condition.Goals as goal

pub returns-in-None : goal.returns-in-None
returns-in-None c inside xs n w =
    let m = node_of c.args.node in
    subst (λ (o : Option (Bor Expression)). Walks inside (xs ++ condition_origins c.args.names.now (test_of o) m) n c.args.passed) (sym c.in-None.is) (settle _ _ _ _ _ (sym (append-nil xs)) w)

pub returns-in-Some : goal.returns-in-Some
returns-in-Some c inside xs n w =
    let m = node_of c.args.node in
    let e = expr_origins c.args.names.now (term c.in-Some.condition.now) in
    subst (λ (o : Option (Bor Expression)). Walks inside (xs ++ condition_origins c.args.names.now (test_of o) m) n c.then_own.result) (sym c.in-Some.is)
    (settle _ _ _ _ _ (append_assoc xs e (times 1 m)) (c.then_own.ensures inside _ _ (c.then_expression.ensures inside xs n w)))
