use Rattle.std.proofs.lemmas.Result.{err_from_is_err_and}
use Rattle.byte_io.proofs.Puts.{stopped_more, puts_then}
use Rattle.fault_lines.proofs.writing.write_stop.Goals as goal

pub returns-in_err-write_pieces : goal.returns-in_err-write_pieces
returns-in_err-write_pieces g c =
    let p = err_from_is_err_and c.from_residual.result c.from_residual.ensures.1 in
    rw (p.1, c.in-At.is) (stopped_more _ c.in_err-write_pieces.ensures)

pub returns : goal.returns
returns g c = rw c.in-At.is (puts_then _ _ c.write_turns.result c.in_ok-write_pieces.ensures (rw c.as_slice.ensures at c.write_turns.ensures))
