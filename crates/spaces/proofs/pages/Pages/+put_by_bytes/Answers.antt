use Rattle.std.proofs.Common.{◌≡◌, ◌+◌, ◌*◌, ◌-◌, ◌/◌, ◌%◌, ◌<◌, ◌∙◌, sym, ap, subst, arith}
use Rattle.std.specs.Prelude.{Some, slice_set}
use Rattle.spaces.specs.Overlay.{copies, overlaid_cells}
use Rattle.spaces.proofs.Rows.{written_out, written_more}
use Rattle.spaces.proofs.Copies.{put_here, put_there, place_there}
use Rattle.spaces.proofs.pages.Pages.+put_by_bytes.Goals as goal

pub returns-then-count-gt0-clause-bytes : goal.returns-then-count-gt0-clause-bytes
returns-then-count-gt0-clause-bytes t c byte =
    let base = c.args.base.now in
    let table = (copies c.args.self.now.table) in
    let cells = c.args.self.now.cells.items in
    let first = c.args.first in
    let copy = c.copy_of-copy.result in
    let place = (copy - 1) * 256 + first % 256 in
    let is : table (first / 256) ≡ copy = sym c.copy_of-copy.ensures in
    let some : 0 < copy = subst (λ z. 0 < z) is (c.requires.copied first (omega arith) (omega (arith, c.if-count-gt0.true))) in
    c.put_by_bytes.ensures.bytes byte
    ∙ written_more (overlaid_cells base table cells) (overlaid_cells base table (slice_set cells place (c.args.value % 256))) first c.args.count c.args.value byte
    (omega (arith, c.if-count-gt0.true))
    (ap Some (put_here base table cells first copy (c.args.value % 256) is some (omega (arith, place_there table c.args.self.now.numbers.items cells (first / 256) copy (first % 256) 1 c.args.self.now.numbered c.args.self.now.filled is some (omega arith)))))
    (λ ne. ap Some (put_there base table c.args.self.now.numbers.items cells first copy (c.args.value % 256) byte c.args.self.now.numbered is some ne))

pub returns-else-count-gt0-clause-bytes : goal.returns-else-count-gt0-clause-bytes
returns-else-count-gt0-clause-bytes t c byte =
    sym (written_out (overlaid_cells c.args.base.now (copies c.args.self.now.table) c.args.self.now.cells.items) c.args.first c.args.count c.args.value byte
    (λ a b. omega (arith, a, b, c.if-count-gt0.false)))
