use Rattle.std.proofs.Common.{◌≡◌, drop}
use Rattle.opencl_words.specs.Tables.{rows, row_in_front}
use Rattle.opencl_words.proofs.said.said_in_front.Given as goal

abbrev pub invariant-loop-row : goal.invariant-loop-row
invariant-loop-row l = row_in_front (rows (drop l.row-index l.table)) l.bytes ≡ row_in_front (rows l.table) l.bytes
