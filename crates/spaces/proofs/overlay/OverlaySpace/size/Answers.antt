use Rattle.std.proofs.Common.{sym}
use Rattle.spaces.specs.Overlay.{copies}
use Rattle.spaces.proofs.PageRows.{as_many}
use Rattle.spaces.proofs.overlay.OverlaySpace.size.Goals as goal

pub returns : goal.returns
returns c =
    let pages = c.self.inside.pages in
    sym (as_many c.args.self.now c.self.inside.base.now (copies pages.table) pages.cells.items (sym c.self.view_is))
