use Rattle.std.proofs.lemmas.Result.{err_from_is_err_and}
use Rattle.cli.proofs.session.write_answer.Goals as goal

pub returns-in_err-write_next-clause-err : goal.returns-in_err-write_next-clause-err
returns-in_err-write_next-clause-err g c =
    let p = err_from_is_err_and c.from_residual.result c.from_residual.ensures.1 in
    rw p.1 c.in_err-write_next.ensures

pub returns-clause-ok : goal.returns-clause-ok
returns-clause-ok g c = (c.in_ok-write_next.ensures, c.one_end.ensures)
