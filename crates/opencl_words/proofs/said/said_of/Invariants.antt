use Rattle.std.proofs.Common.{◌≡◌, drop}
use Rattle.opencl_words.specs.Tables.{rows, row_of}
use Rattle.opencl_words.proofs.said.said_of.Given as goal

abbrev pub invariant-loop-row : goal.invariant-loop-row
invariant-loop-row l = row_of (rows (drop l.row-index l.table)) l.text ≡ row_of (rows l.table) l.text
