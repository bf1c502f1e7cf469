use Rattle.std.proofs.lemmas.Result.{err_from_is_err_and}
use Rattle.byte_io.proofs.Puts.{stopped_more, puts_then}
use Rattle.fault_lines.proofs.writing.write_schedule.Goals as goal

pub returns-in_err-write_run : goal.returns-in_err-write_run
returns-in_err-write_run g c =
    let p = err_from_is_err_and c.from_residual.result c.from_residual.ensures.1 in
    rw (p.1, c.in-Some.ensures.cases.0) (stopped_more _ c.in_err-write_run.ensures)

pub returns : goal.returns
returns g c = rw c.in-Some.ensures.cases.0 (puts_then _ _ c.write_later_runs.result c.in_ok-write_run.ensures c.write_later_runs.ensures)
