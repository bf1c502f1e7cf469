use Rattle.std.proofs.Common.{rules}
use Rattle.std.proofs.lemmas.Result.{err_from_is_err_and}
use Rattle.fault_lines.specs.Text.{later_run_text}
use Rattle.byte_io.proofs.Puts.{stopped_at, wrote_more}
use Rattle.fault_lines.proofs.writing.write_later_runs.Goals as goal

pub returns-in_err-write_later_run : goal.returns-in_err-write_later_run
returns-in_err-write_later_run g c =
    let p = err_from_is_err_and c.from_residual.result c.from_residual.ensures.1 in
    rw p.1 (stopped_at later_run_text c.args.runs.now c.loop-run.run-index _ (search rules) c.loop-run.invariant c.in_err-write_later_run.ensures)

pub loop-run-preserved : goal.loop-run-preserved
loop-run-preserved g c = wrote_more later_run_text c.args.runs.now c.loop-run.run-index _ (search rules) c.loop-run.invariant c.in_ok-write_later_run.ensures
