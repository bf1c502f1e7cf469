use Rattle.std.proofs.Common.{◌∙◌, ap}
use Rattle.spaces.specs.Changes.{with_changes}
use Rattle.spaces.proofs.Changed.{as_told}
use Rattle.spaces.proofs.changes.Changes.write_into.Goals as goal

pub returns : goal.returns
returns c =
    let pages = c.self.inside.pages in
    c.write_into.ensures ∙ as_told c.args.buffer.now pages.table pages.cells.items ∙ ap (with_changes c.args.buffer.now) c.self.view_is
