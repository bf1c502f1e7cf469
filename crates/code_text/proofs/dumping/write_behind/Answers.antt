use Rattle.std.proofs.lemmas.Result.{err_from_is_err_and}
use Rattle.byte_io.proofs.Puts.{stopped_more, puts_then}
use Rattle.code_text.specs.Parts.{part_text}
use Rattle.code_text.proofs.dumping.write_behind.Goals as goal

pub returns-in_err-write : goal.returns-in_err-write
returns-in_err-write g c =
    let p = err_from_is_err_and c.from_residual.result c.from_residual.ensures.1 in
    rw c.in-Some.is (rw p.1 (stopped_more (part_text c.in-Some.part) (rw c.as_bytes.ensures.value at c.in_err-write.ensures)))

pub returns : goal.returns
returns g c = rw c.in-Some.is (puts_then _ _ c.write_part.result (rw c.as_bytes.ensures.value at c.in_ok-write.ensures) c.write_part.ensures)
