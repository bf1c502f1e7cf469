use Rattle.std.proofs.Common.{Bool, sym, subst}
use Rattle.std.proofs.lemmas.Result.{IfOk-weaker}
use Rattle.device.specs.Machine.{machine_of}
use Rattle.host_commands.specs.declared.command.Command.{Command}
use Rattle.exploring.specs.Commands.{IsManner, IsMannerOf}
use Rattle.exploring.proofs.manners.manner_of.Goals as goal

pub returns-in-Launch : goal.returns-in-Launch
returns-in-Launch g c =
    let m = machine_of c.args.device.now in
    IfOk-weaker c.launch_manner.result _ _
    (λ how is.
    subst (λ (command : Command). IsManner c.args.options.now.launch c.args.number m command how) (sym c.in-Launch.is)
    (subst (λ (wanted : Bool). IsMannerOf m c.in-Launch.kernel c.in-Launch.range wanted c.in-Launch.orders how) c.is_wanted.ensures is)) c.launch_manner.ensures
