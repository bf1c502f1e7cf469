use Rattle.std.proofs.lemmas.Result.{err_from_is_err_and}
use Rattle.placed_scripts.proofs.Placing.{is_told}
use Rattle.explaining.proofs.Schedules.{no_script}
use Rattle.explaining.proofs.Writing.{says_of}
use Rattle.explaining.proofs.explained.explain_schedule.Goals as goal

pub returns-in_err-commands-clause-failed : goal.returns-in_err-commands-clause-failed
returns-in_err-commands-clause-failed c =
    let p = err_from_is_err_and c.from_residual.result c.from_residual.ensures.1 in
    rw (p.1, p.2) (no_script c.args.options.configuration c.args.given.script.now c.args.schedule.now _ c.in_err-commands.ensures.bad)

pub told_in-requires-clause-placed : goal.told_in-requires-clause-placed
told_in-requires-clause-placed c =
    is_told c.args.given.script.now c.in_ok-commands.field-0.commands.items c.as_slice-2.result.now c.in_ok-commands.field-0.places.items c.as_slice.result.now c.args.given.written c.told_script-by.result
    c.in_ok-commands.ensures.placed c.as_slice-2.ensures.value c.as_slice.ensures.value c.told_script-by.ensures

pub returns-clause-says : goal.returns-clause-says
returns-clause-says c =
    says_of c.args.options c.args.given.name.now c.args.given.script.now c.args.given.written c.args.schedule.now c.in_ok-told.told c.in_ok-answer_of.field-0 c.in_ok-told.ensures.whole
    c.in_ok-answer_of.ensures.yes c.in_ok-answer_of.ensures.text
