use Rattle.std.proofs.Common.{List, subst}
use Rattle.wide_scripts.specs.Notes.{IsWalk, no_taint}
use Rattle.wide_scripts.specs.declared.note.Note.{Note}
use Rattle.wide_scripts.proofs.script.widen_script.Goals as goal

pub returns-clause-wide : goal.returns-clause-wide
returns-clause-wide c =
    let run = c.in_ok-replies.ensures in
    let found = c.in_ok-free.field-0 in
    c.walks_are_wide.ensures c.args.configuration c.args.commands.items c.in_ok-replies.field-0.replies.items c.in_ok-replies.field-0.notes.items run.0 found.free.items found.reads.items run.1
    (subst (λ (notes : List Note). IsWalk no_taint notes found.free.items found.reads.items) c.as_slice.ensures.value c.in_ok-free.ensures)
