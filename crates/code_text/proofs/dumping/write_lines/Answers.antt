use Rattle.std.proofs.Common.{rules}
use Rattle.std.proofs.lemmas.Result.{err_from_is_err_and}
use Rattle.code_text.proofs.Dumped.{lines_wrote, lines_stopped}
use Rattle.code_text.proofs.dumping.write_lines.Goals as goal

pub returns-in_err-write_line : goal.returns-in_err-write_line
returns-in_err-write_line g c =
    let p = err_from_is_err_and c.from_residual.result c.from_residual.ensures.1 in
    rw p.1 (lines_stopped c.args.instructions.now c.loop-place.place c.index-instructions-place.result c.index-instructions-place.is (search rules) c.loop-place.invariant c.in_err-write_line.ensures)

pub loop-place-preserved : goal.loop-place-preserved
loop-place-preserved g c =
    lines_wrote c.args.instructions.now c.loop-place.place c.index-instructions-place.result c.index-instructions-place.is (search rules) c.loop-place.invariant c.in_ok-write_line.ensures
