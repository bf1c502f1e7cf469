use Rattle.std.proofs.lemmas.Result.{err_from_is_err_and}
use Rattle.byte_io.proofs.Puts.{stopped_more, puts_then}
use Rattle.exploring.proofs.lines.write_rest.Goals as goal

pub returns-in_err-write_bytes : goal.returns-in_err-write_bytes
returns-in_err-write_bytes g c =
    let p = err_from_is_err_and c.from_residual.result c.from_residual.ensures.1 in
    rw p.1 (stopped_more _ c.in_err-write_bytes.ensures)

pub returns : goal.returns
returns g c = puts_then _ _ c.write_lines.result c.in_ok-write_bytes.ensures c.write_lines.ensures
