use Rattle.std.proofs.Common.{◌∙◌, ap, ap₂}
use Rattle.std.proofs.lemmas.Result.{IfOk-weaker}
use Rattle.exploring.specs.Commands.{launch_count}
use Rattle.exploring.specs.Explored.{is_among}
use Rattle.exploring.proofs.Telling.{told_missing, told_there}
use Rattle.exploring.proofs.explored.tell_wanted.Goals as goal

pub returns-then-is_among-clause-told : goal.returns-then-is_among-clause-told
returns-then-is_among-clause-told g c =
    let counted = c.launch_count-count.ensures ∙ ap launch_count c.as_slice.ensures.value in
    let there = c.is_among.ensures ∙ ap₂ is_among c.least.ensures counted in
    IfOk-weaker c.tell_commands.result _ _
    (λ end told. (told.0, told_there c.args.options.now c.args.commands.items end told.0 c.is_among.result there c.if-is_among.true told.1, told.2)) c.tell_commands.ensures.told

pub returns-else-is_among-clause-told : goal.returns-else-is_among-clause-told
returns-else-is_among-clause-told g c =
    let counted = c.launch_count-count.ensures ∙ ap launch_count c.as_slice.ensures.value in
    let there = c.is_among.ensures ∙ ap₂ is_among c.least.ensures counted in
    IfOk-weaker c.tell_missing.result _ _
    (λ end told. (told.0, told_missing c.args.options.now c.args.commands.items end told.0 c.is_among.result there c.if-is_among.false told.1, told.2))
    (c.tell_missing.ensures.told c.args.commands.items counted)

pub returns-else-is_among-clause-failed : goal.returns-else-is_among-clause-failed
returns-else-is_among-clause-failed g c =
    let counted = c.launch_count-count.ensures ∙ ap launch_count c.as_slice.ensures.value in
    c.tell_missing.ensures.failed c.args.commands.items counted
