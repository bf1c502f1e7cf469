use Rattle.std.proofs.lemmas.Result.{err_from_is_err_and}
use Rattle.exploring.proofs.Telling.{no_script, released, unexplored, unreleased}
use Rattle.exploring.proofs.explored.explore.Goals as goal

pub returns-in_err-commands-clause-failed : goal.returns-in_err-commands-clause-failed
returns-in_err-commands-clause-failed g c =
    let p = err_from_is_err_and c.from_residual.result c.from_residual.ensures.1 in
    rw (p.1, p.2) (no_script c.args.options c.args.script.now _ _ c.in_err-commands.ensures.bad)

pub returns-in_err-end-clause-failed : goal.returns-in_err-end-clause-failed
returns-in_err-end-clause-failed g c =
    let p = err_from_is_err_and c.from_residual-in_err-end.result c.from_residual-in_err-end.ensures.1 in
    rw (p.1, p.2) (unexplored c.args.options c.args.script.now c.in_ok-commands.field-0.commands.items _ _ _ c.in_ok-commands.ensures.found c.in_err-end.ensures.failed)

pub returns-in_err-flush-clause-failed : goal.returns-in_err-flush-clause-failed
returns-in_err-flush-clause-failed g c =
    let p = err_from_is_err_and c.from_residual-in_err-flush.result c.from_residual-in_err-flush.ensures.1 in
    let told = c.in_ok-end.ensures.told in
    rw (p.1, p.2) (unreleased c.args.options c.args.script.now c.in_ok-commands.field-0.commands.items _ told.0 _ _ _ c.in_ok-commands.ensures.found told.1 told.2 c.in_err-flush.ensures.bytes)

pub returns-clause-explored : goal.returns-clause-explored
returns-clause-explored g c =
    let told = c.in_ok-end.ensures.told in
    released c.args.options c.args.script.now c.in_ok-commands.field-0.commands.items c.in_ok-end.end told.0 _ _ _ c.in_ok-commands.ensures.found told.1 told.2 c.in_ok-flush.ensures.bytes c.in_ok-flush.ensures.released
