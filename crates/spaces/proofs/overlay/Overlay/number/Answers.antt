use Rattle.std.proofs.Common.{◌+◌, ◌≤◌, ◌∙◌, sym, ap, subst}
use Rattle.clmodel.specs.Cells.{byte_count, cells_of, number}
use Rattle.spaces.specs.Overlay.{copies}
use Rattle.spaces.proofs.PageRows.{as_many, number_there}
use Rattle.spaces.proofs.overlay.Overlay.number.Goals as goal

pub number-requires : goal.number-requires
number-requires c =
    let pages = c.self.inside.pages in
    subst (λ z. c.args.at + byte_count c.args.width ≤ z) (as_many c.args.self.now c.self.inside.base.now (copies pages.table) pages.cells.items (sym c.self.view_is)) c.requires

pub returns-clause-value : goal.returns-clause-value
returns-clause-value c =
    let pages = c.self.inside.pages in
    ap (λ z. number (cells_of z.bytes) c.args.at (byte_count c.args.width)) (sym c.self.view_is)
    ∙ number_there c.self.inside.base.now (copies pages.table) pages.cells.items c.args.at (byte_count c.args.width) c.number.result
    (subst (λ z. c.args.at + byte_count c.args.width ≤ z) (as_many c.args.self.now c.self.inside.base.now (copies pages.table) pages.cells.items (sym c.self.view_is)) c.requires)
    c.number.ensures.value
