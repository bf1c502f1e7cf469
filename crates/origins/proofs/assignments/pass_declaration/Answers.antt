use Rattle.std.proofs.Common.{◌∙◌, arith}
use Rattle.clmodel.specs.Tree.{term}
use Rattle.origins.specs.Origins.{node_of}
use Rattle.origins.specs.Settings.{inside_in}
use Rattle.origins.proofs.Settling.{settle}
use Rattle.origins.proofs.Stating.{declared, first_names}
use Rattle.origins.proofs.assignments.pass_declaration.Goals as goal

pub returns-in-Ok-clause-walks : goal.returns-in-Ok-clause-walks
returns-in-Ok-clause-walks c =
    let inside = inside_in c.args.setting in
    settle _ _ _ _ _
    (declared c.args.setting c.args.names.now.items c.as_slice.result.now c.args.kind c.args.name (term c.args.value.now) (node_of c.args.node) (c.as_slice.ensures.value ∙ c.in-Ok.ensures.items))
    (c.then_own.ensures inside _ _ (c.then_right-valued.ensures _ _ (c.pass_own-begun.ensures inside)))

pub returns-in-Ok-clause-names : goal.returns-in-Ok-clause-names
returns-in-Ok-clause-names c =
    let names = c.args.names.now in
    c.truncate.ensures.items ∙ first_names c.len-count.result names.items _ _ (omega (arith, c.len-count.ensures, names.ok.0)) c.in-Ok.ensures.items
