use Rattle.std.proofs.lemmas.Result.{err_from_is_err_and}
use Rattle.byte_io.proofs.Puts.{stopped_more, puts_then}
use Rattle.fault_lines.proofs.writing.write.Goals as goal

pub returns-in_err-write_fault : goal.returns-in_err-write_fault
returns-in_err-write_fault g c =
    let p = err_from_is_err_and c.from_residual.result c.from_residual.ensures.1 in
    rw p.1 (stopped_more _ c.in_err-write_fault.ensures)

pub returns : goal.returns
returns g c = puts_then _ _ c.write_parts.result c.in_ok-write_fault.ensures (rw c.as_slice.ensures at c.write_parts.ensures)
