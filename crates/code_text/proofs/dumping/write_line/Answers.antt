use Rattle.std.specs.Prelude.{codes}
use Rattle.std.proofs.lemmas.Result.{err_from_is_err_and}
use Rattle.byte_io.proofs.Puts.{wrote_then, stopped_then, stopped_more, puts_then}
use Rattle.code_text.specs.Parts.{behind}
use Rattle.code_text.proofs.Dumped.{puts_line, stopped_line, stopped_head}
use Rattle.code_text.proofs.dumping.write_line.Goals as goal

pub returns-in_err-write_pieces : goal.returns-in_err-write_pieces
returns-in_err-write_pieces g c =
    let p = err_from_is_err_and c.from_residual.result c.from_residual.ensures.1 in
    rw p.1 (stopped_head _ _ _ c.instruction_word.ensures c.in_err-write_pieces.ensures)

pub returns-in_err-write_behind : goal.returns-in_err-write_behind
returns-in_err-write_behind g c =
    let p = err_from_is_err_and c.from_residual-in_err-write_behind.result c.from_residual-in_err-write_behind.ensures.1 in
    let parts = c.parts-first.result in
    rw p.1 (stopped_line _ _ (behind (codes " ") parts.0) (behind (codes ", ") parts.1) (behind (codes ", ") parts.2) (behind (codes ", ") parts.3) c.instruction_word.ensures c.parts-first.ensures (stopped_more _ (stopped_more _ (stopped_more _ (stopped_more _ (stopped_then c.in_ok-write_pieces.ensures c.in_err-write_behind.ensures))))))

pub returns-in_err-write_behind-2 : goal.returns-in_err-write_behind-2
returns-in_err-write_behind-2 g c =
    let p = err_from_is_err_and c.from_residual-in_err-write_behind-2.result c.from_residual-in_err-write_behind-2.ensures.1 in
    rw p.1 (stopped_line _ _ _ _ _ _ c.instruction_word.ensures c.parts-first.ensures (stopped_more _ (stopped_more _ (stopped_more _ (stopped_then (wrote_then c.in_ok-write_pieces.ensures c.in_ok-write_behind.ensures) c.in_err-write_behind-2.ensures)))))

pub returns-in_err-write_behind-3 : goal.returns-in_err-write_behind-3
returns-in_err-write_behind-3 g c =
    let p = err_from_is_err_and c.from_residual-in_err-write_behind-3.result c.from_residual-in_err-write_behind-3.ensures.1 in
    rw p.1 (stopped_line _ _ _ _ _ _ c.instruction_word.ensures c.parts-first.ensures (stopped_more _ (stopped_more _ (stopped_then (wrote_then (wrote_then c.in_ok-write_pieces.ensures c.in_ok-write_behind.ensures) c.in_ok-write_behind-2.ensures) c.in_err-write_behind-3.ensures))))

pub returns-in_err-write_behind-4 : goal.returns-in_err-write_behind-4
returns-in_err-write_behind-4 g c =
    let p = err_from_is_err_and c.from_residual-in_err-write_behind-4.result c.from_residual-in_err-write_behind-4.ensures.1 in
    rw p.1 (stopped_line _ _ _ _ _ _ c.instruction_word.ensures c.parts-first.ensures (stopped_more _ (stopped_then (wrote_then (wrote_then (wrote_then c.in_ok-write_pieces.ensures c.in_ok-write_behind.ensures) c.in_ok-write_behind-2.ensures) c.in_ok-write_behind-3.ensures) c.in_err-write_behind-4.ensures)))

pub returns : goal.returns
returns g c =
    puts_line _ _ c.write.result _ _ _ _ _ _ c.instruction_word.ensures c.parts-first.ensures
    (puts_then _ (codes "\n") c.write.result (wrote_then (wrote_then (wrote_then (wrote_then c.in_ok-write_pieces.ensures c.in_ok-write_behind.ensures) c.in_ok-write_behind-2.ensures) c.in_ok-write_behind-3.ensures) c.in_ok-write_behind-4.ensures) c.write.ensures)
