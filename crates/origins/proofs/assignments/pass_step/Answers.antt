use Rattle.std.proofs.lemmas.List.{append_assoc}
use Rattle.clmodel.specs.Tree.{tree_target}
use Rattle.origins.specs.Origins.{node_of, times, target_origins, fetch_origins}
use Rattle.origins.proofs.Settling.{settle}
use Rattle.origins.proofs.assignments.pass_step.Goals as goal

pub returns : goal.returns
returns c inside =
    let to = tree_target c.args.target.now in
    let n = node_of c.args.node in
    settle _ _ _ _ _ (append_assoc (target_origins c.args.names.now to) (fetch_origins c.args.names.now to n) (times 3 n))
    (c.then_own.ensures inside _ _ (c.then_fetch.ensures inside _ _ (c.pass_target-reached.ensures inside)))
