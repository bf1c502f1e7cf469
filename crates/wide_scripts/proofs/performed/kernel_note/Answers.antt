use Rattle.std.proofs.Common.{Bool, true, false, sym, subst}
use Rattle.std.proofs.lemmas.Result.{IfOk-weaker}
use Rattle.device.specs.Machine.{machine_of}
use Rattle.host_commands.specs.declared.command.Command.TheVariants as command
use Rattle.host_commands.specs.declared.command.Reply.TheVariants.{Done}
use Rattle.wide_scripts.specs.Notes.{IsNoted}
use Rattle.wide_scripts.proofs.Performing.{prepared_noted}
use Rattle.wide_scripts.proofs.performed.kernel_note.Goals as goal

pub returns-then-orders : goal.returns-then-orders
returns-then-orders c =
    let m = machine_of c.args.device.now in
    IfOk-weaker c.ordered_note.result _ _
    (λ n noted. subst (λ (orders : Bool). IsNoted m (command.Launch c.args.kernel.now c.args.range.now orders) Done n) (sym c.if-orders.true)
    (prepared_noted m c.args.kernel.now c.args.range.now true c.in-Ok.launch n c.in-Ok.ensures.prepared noted)) c.ordered_note.ensures

pub returns-in-Ok : goal.returns-in-Ok
returns-in-Ok c =
    let m = machine_of c.args.device.now in
    IfOk-weaker c.launch_note.result _ _
    (λ n noted. subst (λ (orders : Bool). IsNoted m (command.Launch c.args.kernel.now c.args.range.now orders) Done n) (sym c.if-orders.false)
    (prepared_noted m c.args.kernel.now c.args.range.now false c.in-Ok.launch n c.in-Ok.ensures.prepared (noted m c.in-Ok.ensures.prepared.code))) c.launch_note.ensures
