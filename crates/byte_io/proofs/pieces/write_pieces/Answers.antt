use Rattle.std.proofs.Common.{rules}
use Rattle.std.proofs.lemmas.Result.{err_from_is_err_and}
use Rattle.byte_io.specs.Pieces.{piece_text}
use Rattle.byte_io.proofs.Puts.{stopped_at, wrote_more}
use Rattle.byte_io.proofs.pieces.write_pieces.Goals as goal

pub returns-in_err-write_piece : goal.returns-in_err-write_piece
returns-in_err-write_piece g c =
    let p = err_from_is_err_and c.from_residual.result c.from_residual.ensures.1 in
    rw p.1 (stopped_at piece_text c.args.pieces.now c.loop-piece.piece-index _ (search rules) c.loop-piece.invariant c.in_err-write_piece.ensures)

pub loop-piece-preserved : goal.loop-piece-preserved
loop-piece-preserved g c = wrote_more piece_text c.args.pieces.now c.loop-piece.piece-index _ (search rules) c.loop-piece.invariant c.in_ok-write_piece.ensures
