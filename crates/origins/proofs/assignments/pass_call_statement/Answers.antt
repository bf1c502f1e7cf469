use Rattle.std.proofs.Common.{sym, ◌∙◌}
use Rattle.clmodel.specs.Tree.{terms}
use Rattle.origins.specs.Origins.{node_of}
use Rattle.origins.specs.Settings.{inside_in}
use Rattle.origins.proofs.Settling.{settle}
use Rattle.origins.proofs.Stating.{waits, calls_built_in, calls_helper}
use Rattle.origins.proofs.assignments.pass_call_statement.Goals as goal

pub returns-then-is_barrier : goal.returns-then-is_barrier
returns-then-is_barrier c =
    settle _ _ _ _ _ (waits c.args.setting c.args.names.now c.args.name (terms c.args.arguments.now) (node_of c.args.node) (sym c.is_barrier.ensures ∙ c.if-is_barrier.true)) (c.pass_own.ensures (inside_in c.args.setting))

pub returns-in-Some : goal.returns-in-Some
returns-in-Some c =
    let inside = inside_in c.args.setting in
    settle _ _ _ _ _
    (calls_built_in c.args.setting c.args.names.now c.args.name (terms c.args.arguments.now) (node_of c.args.node) _ (sym c.is_barrier.ensures ∙ c.if-is_barrier.false) (sym c.in-Some.ensures))
    (c.then_own.ensures inside _ _ (c.pass_arguments-given.ensures inside))

pub returns-in-None : goal.returns-in-None
returns-in-None c =
    let inside = inside_in c.args.setting in
    settle _ _ _ _ _
    (calls_helper c.args.setting c.args.names.now c.args.name (terms c.args.arguments.now) (node_of c.args.node) (sym c.is_barrier.ensures ∙ c.if-is_barrier.false) (sym c.in-None.ensures))
    (c.then_call.ensures _ _ (c.pass_arguments-given.ensures inside))
