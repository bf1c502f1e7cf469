use Rattle.std.proofs.Common.{refl}
use Rattle.clmodel.specs.Tree.{term, terms}
use Rattle.origins.specs.Settings.{inside_in}
use Rattle.origins.proofs.Settling.{settle}
use Rattle.origins.proofs.Stating.{right_plain, right_call}
use Rattle.origins.proofs.assignments.pass_right.Goals as goal

pub returns-in-None : goal.returns-in-None
returns-in-None c =
    settle _ _ _ _ _ (right_plain c.args.setting c.args.names.now (term c.args.value.now) c.in-None.ensures) (c.pass_expression.ensures (inside_in c.args.setting))

pub returns-in-Some : goal.returns-in-Some
returns-in-Some c =
    let inside = inside_in c.args.setting in
    let call = c.in-Some.call in
    settle _ _ _ _ _
    (right_call c.args.setting c.args.names.now (term c.args.value.now) (record { name = call.name; arguments = terms call.arguments.now }) call.arguments.now c.needed_count.result c.in-Some.ensures refl c.needed_count.ensures)
    (c.then_own.ensures inside _ _ (c.then_call-called.ensures _ _ (c.pass_arguments-given.ensures inside)))
