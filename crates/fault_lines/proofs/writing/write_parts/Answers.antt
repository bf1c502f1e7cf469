use Rattle.std.proofs.Common.{rules}
use Rattle.std.proofs.lemmas.Result.{err_from_is_err_and}
use Rattle.fault_lines.specs.Parts.{part_text}
use Rattle.byte_io.proofs.Puts.{stopped_item, wrote_item}
use Rattle.fault_lines.proofs.writing.write_parts.Goals as goal

pub returns-in_err-write_part : goal.returns-in_err-write_part
returns-in_err-write_part g c =
    let p = err_from_is_err_and c.from_residual.result c.from_residual.ensures.1 in
    rw p.1 (stopped_item part_text c.args.parts.now c.loop-part.part-index c.part-item.result c.part-item.is (search rules) c.loop-part.invariant c.in_err-write_part.ensures)

pub loop-part-preserved : goal.loop-part-preserved
loop-part-preserved g c = wrote_item part_text c.args.parts.now c.loop-part.part-index c.part-item.result c.part-item.is (search rules) c.loop-part.invariant c.in_ok-write_part.ensures
