use Rattle.std.proofs.Common.{◌+◌, ◌*◌, ◌-◌, ◌%◌, ◌∙◌, sym, ap, arith}
use Rattle.clmodel.specs.Cells.{byte_count, number}
use Rattle.spaces.specs.Overlay.{copies, row_cells}
use Rattle.spaces.proofs.Copies.{copy_number}
use Rattle.spaces.proofs.pages.Pages.number.Goals as goal

pub returns-then-copy-gt0-clause-value : goal.returns-then-copy-gt0-clause-value
returns-then-copy-gt0-clause-value c =
    let pages = c.args.self.now in
    let count = byte_count c.args.width in
    let copy = c.copy_of-copy.result in
    copy_number c.args.base.now (copies pages.table) pages.cells.items c.args.at copy count (sym c.copy_of-copy.ensures) (omega (arith, c.if-copy-gt0.true)) (omega (arith, c.if-at-count-gt-PAGE.false, c.bytes-count.ensures.value))
    ∙ ap (λ z. number (row_cells z) ((copy - 1) * 256 + c.args.at % 256) count) (sym c.as_slice.ensures.value)
    ∙ c.number_in-then-copy-gt0.ensures.value
