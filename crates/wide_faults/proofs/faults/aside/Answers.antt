use Rattle.std.proofs.Common.{List, ℕ, sym, subst, ◌∙◌}
use Rattle.std.proofs.lemmas.Result.{IfOk-weaker}
use Rattle.device.specs.Machine.{Answers, kernel_of, machine_of, setup_of}
use Rattle.host_commands.specs.declared.command.Command.{Command}
use Rattle.wide_faults.specs.Faults.{IsAside, IsLaunchAside}
use Rattle.wide_faults.proofs.InKernel.{launch_silent, launch_told}
use Rattle.wide_faults.proofs.faults.aside.Goals as goal

pub returns-then-not-is_fault : goal.returns-then-not-is_fault
returns-then-not-is_fault c =
    λ old answers.
    let head = c.args.head.now in
    let r = c.args.reply.now in
    let orders = c.in-Launch.orders in
    let setup = setup_of old (kernel_of old c.in-Launch.kernel) c.in-Launch.range in
    subst (λ (command : Command). IsAside head old command r c.new.result.items) (sym c.in-Launch.is)
    (subst (λ (t : List ℕ). IsLaunchAside orders head old setup r t) (sym c.new.ensures.items) (launch_silent orders head old setup r (sym c.is_fault.ensures ∙ c.if-not-is_fault.true)))

pub returns-else-not-is_fault : goal.returns-else-not-is_fault
returns-else-not-is_fault c =
    IfOk-weaker c.fault_aside.result _ _
    (λ text tells old answers.
    let head = c.args.head.now in
    let r = c.args.reply.now in
    let new = machine_of c.args.device.now in
    subst (λ (command : Command). IsAside head old command r text.items) (sym c.in-Launch.is)
    (launch_told c.in-Launch.orders head old new c.in-Launch.kernel c.in-Launch.range r text.items (sym c.is_fault.ensures ∙ c.if-not-is_fault.false)
    (subst (λ (command : Command). Answers old command r new) c.in-Launch.is answers) tells)) c.fault_aside.ensures
