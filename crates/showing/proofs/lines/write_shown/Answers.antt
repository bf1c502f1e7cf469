use Rattle.std.proofs.lemmas.Result.{err_from_is_err_and}
use Rattle.byte_io.proofs.Puts.{stopped_more, puts_then}
use Rattle.showing.proofs.lines.write_shown.Goals as goal

pub returns-in_err-write_front : goal.returns-in_err-write_front
returns-in_err-write_front g c =
    let p = err_from_is_err_and c.from_residual.result c.from_residual.ensures.1 in
    rw p.1 (stopped_more _ c.in_err-write_front.ensures)

pub returns : goal.returns
returns g c = puts_then _ _ c.write_line.result c.in_ok-write_front.ensures c.write_line.ensures
