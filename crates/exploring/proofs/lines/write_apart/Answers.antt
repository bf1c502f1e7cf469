use Rattle.std.proofs.lemmas.Result.{err_from_is_err_and}
use Rattle.byte_io.proofs.Puts.{stopped_more, puts_then}
use Rattle.exploring.proofs.lines.write_apart.Goals as goal

pub returns-in_err-write_launch : goal.returns-in_err-write_launch
returns-in_err-write_launch g c =
    let p = err_from_is_err_and c.from_residual.result c.from_residual.ensures.1 in
    rw (p.1, c.in-Some.is) (stopped_more _ c.in_err-write_launch.ensures)

pub returns : goal.returns
returns g c = rw c.in-Some.is (puts_then _ _ c.write_different.result c.in_ok-write_launch.ensures c.write_different.ensures)
