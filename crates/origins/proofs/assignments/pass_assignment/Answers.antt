use Rattle.clmodel.specs.Tree.{term, tree_target}
use Rattle.origins.specs.Origins.{node_of}
use Rattle.origins.specs.Settings.{inside_in}
use Rattle.origins.proofs.Settling.{settle}
use Rattle.origins.proofs.Stating.{assign_plain, assign_combined}
use Rattle.origins.proofs.assignments.pass_assignment.Goals as goal

pub returns-in-None : goal.returns-in-None
returns-in-None c =
    let inside = inside_in c.args.setting in
    settle _ _ _ _ _
    (assign_plain c.args.setting c.args.names.now (tree_target c.args.target.now) c.args.operator (term c.args.value.now) (node_of c.args.node) c.in-None.is)
    (c.then_own.ensures inside _ _ (c.then_right.ensures _ _ (c.pass_target-reached.ensures inside)))

pub returns-in-Some : goal.returns-in-Some
returns-in-Some c =
    let inside = inside_in c.args.setting in
    settle _ _ _ _ _
    (assign_combined c.args.setting c.args.names.now (tree_target c.args.target.now) c.args.operator _ (term c.args.value.now) (node_of c.args.node) c.in-Some.is)
    (c.then_own-in-Some.ensures inside _ _ (c.then_right-in-Some.ensures _ _ (c.then_fetch-fetched.ensures inside _ _ (c.pass_target-reached.ensures inside))))
