use Rattle.std.proofs.lemmas.Result.{err_from_is_err_and}
use Rattle.explaining.proofs.Answering.{unwritten}
use Rattle.explaining.proofs.explained.explain.Goals as goal

pub returns-in_err-answer-clause-failed : goal.returns-in_err-answer-clause-failed
returns-in_err-answer-clause-failed g c =
    let p = err_from_is_err_and c.from_residual.result c.from_residual.ensures.1 in
    rw (p.1, p.2) (unwritten c.args.options.configuration c.args.given _ _ c.in_err-answer.ensures.failed)

pub returns-in_err-tell-clause-failed : goal.returns-in_err-tell-clause-failed
returns-in_err-tell-clause-failed g c =
    let p = err_from_is_err_and c.from_residual-in_err-tell.result c.from_residual-in_err-tell.ensures.1 in
    rw (p.1, p.2) (_, c.in_err-tell.ensures.text)
