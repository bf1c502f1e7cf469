use Rattle.std.proofs.Common.{sym, ◌∙◌}
use Rattle.std.proofs.lemmas.Bool.{false≢true}
use Rattle.device.specs.Machine.{machine_of}
use Rattle.wide_scripts.proofs.Performing.{answer_of}
use Rattle.wide_scripts.proofs.performed.perform.Goals as goal

pub returns-clause-answers : goal.returns-clause-answers
returns-clause-answers c =
    answer_of (machine_of c.args.device.now) (machine_of c.apply-reply.new.self) c.args.command c.apply-reply.result c.apply-reply.ensures
    (λ lack. false≢true (sym c.if-lacked_memory.false ∙ c.lacked_memory.ensures.1 lack))

pub returns-clause-noted : goal.returns-clause-noted
returns-clause-noted c = c.answered_note-note.ensures (machine_of c.args.device.now) c.args.command c.in_ok-note.ensures
