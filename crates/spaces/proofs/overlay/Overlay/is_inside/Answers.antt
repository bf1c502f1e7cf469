use Rattle.std.proofs.Common.{◌+◌, ◌∙◌, sym, ap}
use Rattle.std.specs.Prelude.{nat_le}
use Rattle.spaces.specs.Overlay.{copies}
use Rattle.spaces.proofs.PageRows.{as_many}
use Rattle.spaces.proofs.overlay.Overlay.is_inside.Goals as goal

pub returns : goal.returns
returns c =
    let pages = c.self.inside.pages in
    c.is_inside.ensures ∙ ap (nat_le (c.args.at + c.args.count)) (sym (as_many c.args.self.now c.self.inside.base.now (copies pages.table) pages.cells.items (sym c.self.view_is)))
