use Rattle.std.proofs.lemmas.Result.{err_from_is_err_and}
use Rattle.byte_io.proofs.Puts.{stopped_more, stopped_then, puts_then}
use Rattle.simfile.proofs.replies.write_data.Goals as goal

pub returns-in_err-write : goal.returns-in_err-write
returns-in_err-write g c =
    let p = err_from_is_err_and c.from_residual.result c.from_residual.ensures.1 in
    rw p.1 (stopped_more _ c.in_err-write.ensures)

pub returns-in_err-write_hex : goal.returns-in_err-write_hex
returns-in_err-write_hex g c =
    let p = err_from_is_err_and c.from_residual-in_err-write_hex.result c.from_residual-in_err-write_hex.ensures.1 in
    rw p.1 (stopped_then c.in_ok-write.ensures (stopped_more _ c.in_err-write_hex.ensures))

pub returns : goal.returns
returns g c = puts_then _ _ c.write-2.result c.in_ok-write.ensures (puts_then _ _ c.write-2.result c.in_ok-write_hex.ensures c.write-2.ensures)
