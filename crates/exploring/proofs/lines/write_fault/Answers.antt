use Rattle.std.proofs.lemmas.Result.{err_from_is_err_and}
use Rattle.byte_io.proofs.Puts.{stopped_more, puts_then}
use Rattle.exploring.proofs.lines.write_fault.Goals as goal

pub returns-in_err-write_order : goal.returns-in_err-write_order
returns-in_err-write_order g c =
    let p = err_from_is_err_and c.from_residual.result c.from_residual.ensures.1 in
    rw p.1 (stopped_more _ c.in_err-write_order.ensures)

pub returns : goal.returns
returns g c = puts_then _ _ c.write_file.result c.in_ok-write_order.ensures c.write_file.ensures
