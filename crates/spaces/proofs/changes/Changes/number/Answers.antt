use Rattle.std.proofs.Common.{Some, map, ◌∙◌, sym, ap}
use Rattle.clmodel.specs.Cells.{byte_count, cells_of, number}
use Rattle.spaces.specs.Changes.{with_changes}
use Rattle.spaces.specs.Overlay.{copies}
use Rattle.spaces.proofs.Changed.{overlaid_is}
use Rattle.spaces.proofs.PageRows.{number_there}
use Rattle.spaces.proofs.changes.Changes.number.Goals as goal

pub returns-clause-value : goal.returns-clause-value
returns-clause-value c =
    let pages = c.self.inside.pages in
    let bytes = c.args.bytes.now in
    let count = byte_count c.args.width in
    ap (λ z. number (cells_of (map Some (with_changes bytes z))) c.args.at count) (sym c.self.view_is)
    ∙ ap (λ z. number (cells_of z) c.args.at count) (sym (overlaid_is bytes pages.table pages.cells.items))
    ∙ number_there bytes (copies pages.table) pages.cells.items c.args.at count c.number.result c.requires c.number.ensures.value
