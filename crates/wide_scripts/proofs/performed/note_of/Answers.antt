use Rattle.std.proofs.Common.{sym, subst}
use Rattle.std.proofs.lemmas.Result.{IfOk-weaker}
use Rattle.device.specs.Machine.{machine_of}
use Rattle.host_commands.specs.declared.command.Command.{Command}
use Rattle.host_commands.specs.declared.command.Reply.TheVariants.{Done}
use Rattle.wide_scripts.specs.Notes.{IsNoted}
use Rattle.wide_scripts.proofs.performed.note_of.Goals as goal

pub returns-in-Launch : goal.returns-in-Launch
returns-in-Launch c =
    IfOk-weaker c.kernel_note.result _ _ (λ n noted. subst (λ (command : Command). IsNoted (machine_of c.args.device.now) command Done n) (sym c.in-Launch.is) noted) c.kernel_note.ensures
