use Rattle.std.proofs.Common.{sym, ◌∙◌, subst}
use Rattle.std.proofs.lemmas.Bool.{false≢true}
use Rattle.device.specs.Machine.{Answers, machine_of}
use Rattle.host_commands.specs.declared.command.Command.{Command}
use Rattle.wide_faults.proofs.InKernel.{answer_of}
use Rattle.wide_faults.proofs.faults.answered.Goals as goal

pub returns : goal.returns
returns c =
    let old = machine_of c.args.device.now in
    let new = machine_of c.apply-reply.new.self in
    subst (λ (x : Command). Answers old x c.apply-reply.result new) c.in_ok-same.ensures
    (answer_of old new c.in_ok-same.same c.apply-reply.result c.apply-reply.ensures (λ lack. false≢true (sym c.if-lacked_memory.false ∙ c.lacked_memory.ensures.1 lack)))
