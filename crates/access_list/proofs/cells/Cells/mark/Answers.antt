use Rattle.std.proofs.Common.{◌+◌, ◌%◌, nat_lt, ltb-true, ltb-false, arith}
use Rattle.clmodel.specs.Cells.{byte_count}
use Rattle.clmodel.proofs.CellLaws.{covers_parts}
use Rattle.clmodel.proofs.Steps.{decided}
use Rattle.access_list.specs.Keys.{cell_key}
use Rattle.access_list.proofs.cells.Cells.mark.Goals as goal

pub returns-in_err-mark_part-2-clause-kept : goal.returns-in_err-mark_part-2-clause-kept
returns-in_err-mark_part-2-clause-kept c y m byte on =
    c.mark_part-then-here-count.ensures.kept (cell_key y.region byte) (byte % 8) y byte (omega arith)
    (c.mark_part.ensures.kept (cell_key y.region byte) (byte % 8) y byte (omega arith) (m byte on))

pub returns-in_ok-mark_part-2-clause-kept : goal.returns-in_ok-mark_part-2-clause-kept
returns-in_ok-mark_part-2-clause-kept c y m byte on =
    c.mark_part-then-here-count.ensures.kept (cell_key y.region byte) (byte % 8) y byte (omega arith)
    (c.mark_part.ensures.kept (cell_key y.region byte) (byte % 8) y byte (omega arith) (m byte on))

pub returns-in_ok-mark_part-2-clause-added : goal.returns-in_ok-mark_part-2-clause-added
returns-in_ok-mark_part-2-clause-added c byte on =
    let x = c.args.x.now in
    let r = covers_parts x.first (byte_count x.width) byte on in
    decided (nat_lt byte (x.first + c.min-here.result))
    (λ t.
    c.mark_part-then-here-count.ensures.kept (cell_key x.region byte) (byte % 8) x byte (omega arith)
    (c.in_ok-mark_part.ensures.added byte r.0 (ltb-true byte (x.first + c.min-here.result) t)))
    (λ t.
    c.in_ok-mark_part-2.ensures.added byte (ltb-false byte (x.first + c.min-here.result) t)
    (omega (arith, r.1, c.bytes-count.ensures.value, c.min-here.ensures)))
