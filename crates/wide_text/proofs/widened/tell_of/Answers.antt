use Rattle.std.proofs.Common.{◌∙◌}
use Rattle.wide_text.proofs.Telling.{told_wide}
use Rattle.wide_text.proofs.widened.tell_of.Goals as goal

pub returns-clause-told : goal.returns-clause-told
returns-clause-told c =
    let wide = c.in_ok-wide.wide in
    told_wide c.args.configuration c.args.script.now c.args.own c.told_script-by.result c.args.format c.in_ok-commands.field-0.commands.items c.in_ok-same.same.items c.in_ok-commands.field-0.places.items c.as_slice.result.now wide.replies.items
    c.as_slice-3.result.now c.as_slice-5.result.now wide.notes.items wide.free.items wide.reads.items c.end_of-end.result c.in_ok-report.report c.in_ok-text.text.items
    c.in_ok-commands.ensures.found c.in_ok-commands.ensures.placed (c.in_ok-same.ensures ∙ c.as_slice-2.ensures.value) c.in_ok-wide.ensures.noted c.in_ok-wide.ensures.wide
    c.as_slice-3.ensures.value c.as_slice-5.ensures.value c.as_slice.ensures.value c.told_script-by.ensures c.end_of-end.ensures c.in_ok-report.ensures c.in_ok-text.ensures
