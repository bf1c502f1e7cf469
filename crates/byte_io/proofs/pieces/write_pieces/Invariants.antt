use Rattle.std.proofs.Common.{take}
use Rattle.std.specs.List.{flat_map}
use Rattle.byte_io.specs.Sink.{Wrote}
use Rattle.byte_io.specs.Pieces.{piece_text}
use Rattle.byte_io.proofs.pieces.write_pieces.Given as goal

abbrev pub invariant-loop-piece : goal.invariant-loop-piece
invariant-loop-piece g l = Wrote (g.W.Write.sink l.initial.writer) (g.W.Write.sink l.writer) (flat_map piece_text (take l.piece-index l.pieces))
