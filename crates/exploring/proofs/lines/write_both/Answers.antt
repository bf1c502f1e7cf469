use Rattle.std.proofs.lemmas.Result.{err_from_is_err_and}
use Rattle.byte_io.proofs.Puts.{stopped_more, puts_then}
use Rattle.exploring.proofs.lines.write_both.Goals as goal

pub returns-in_err-write_shown : goal.returns-in_err-write_shown
returns-in_err-write_shown g c =
    let p = err_from_is_err_and c.from_residual.result c.from_residual.ensures.1 in
    rw p.1 (stopped_more _ c.in_err-write_shown.ensures)

pub returns : goal.returns
returns g c = puts_then _ _ c.write_apart.result c.in_ok-write_shown.ensures c.write_apart.ensures
