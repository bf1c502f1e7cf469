use Rattle.std.proofs.lemmas.Result.{err_from_is_err_and}
use Rattle.cli.proofs.Servings.{is_none, served_all, serves_more, no_command, not_told, not_heard}
use Rattle.cli.proofs.dialogue.turn.Goals as goal

pub returns-in_default-clause-turned : goal.returns-in_default-clause-turned
returns-in_default-clause-turned g c start configuration serves =
    let next = c.in_ok-command.ensures.heard in
    served_all serves (rw (is_none c.in_ok-command.field-0 c.in_default.not-Some) at next)

pub returns-in_err-command-clause-failed : goal.returns-in_err-command-clause-failed
returns-in_err-command-clause-failed g c start configuration serves =
    let p = err_from_is_err_and c.from_residual.result c.from_residual.ensures.1 in
    rw (p.1, p.2) (no_command _ _ serves c.in_err-command.ensures.failed)

pub returns-in_err-tell-clause-failed : goal.returns-in_err-tell-clause-failed
returns-in_err-tell-clause-failed g c start configuration serves =
    let p = err_from_is_err_and c.from_residual-in_err-tell.result c.from_residual-in_err-tell.ensures.1 in
    let next = c.in_ok-command.ensures.heard in
    rw (p.1, p.2) (not_told _ c.in-Some.command c.apply_with-reply.result _ serves (rw c.in-Some.is at next) c.apply_with-reply.ensures c.in_err-tell.ensures.failed)

pub returns-in_err-next-clause-failed : goal.returns-in_err-next-clause-failed
returns-in_err-next-clause-failed g c start configuration serves =
    let p = err_from_is_err_and c.from_residual-in_err-next.result c.from_residual-in_err-next.ensures.1 in
    let next = c.in_ok-command.ensures.heard in
    rw (p.1, p.2) (not_heard c.in-Some.command c.apply_with-reply.result _ serves (rw c.in-Some.is at next) c.apply_with-reply.ensures c.in_ok-tell.ensures.told c.in_err-next.ensures.failed)

pub returns-clause-turned : goal.returns-clause-turned
returns-clause-turned g c start configuration serves =
    let next = c.in_ok-command.ensures.heard in
    rw c.one_end.ensures (serves_more c.in-Some.command c.apply_with-reply.result serves (rw c.in-Some.is at next) c.apply_with-reply.ensures c.in_ok-tell.ensures.told c.in_ok-next.ensures.heard)
