use Rattle.std.proofs.Common.{◌∙◌, sym, ap, subst}
use Rattle.std.specs.Prelude.{slice_get, ◌≢◌, ◌/◌, All}
use Rattle.clmodel.specs.Cells.{cells_of}
use Rattle.spaces.specs.Overlay.{copies}
use Rattle.spaces.proofs.PageRows.{unchanged}
use Rattle.spaces.proofs.overlay.Overlay.changed.Goals as goal

pub returns : goal.returns
returns c byte apart =
    let base = c.self.inside.base.now in
    let pages = c.self.inside.pages in
    ap (λ z. cells_of z.bytes byte) (sym c.self.view_is)
    ∙ unchanged base (copies pages.table) pages.numbers.items pages.cells.items pages.numbered byte (subst (All (λ page. byte / 256 ≢ page)) c.as_slice.ensures.value apart)
    ∙ ap (λ z. slice_get z.base byte) c.self.view_is
