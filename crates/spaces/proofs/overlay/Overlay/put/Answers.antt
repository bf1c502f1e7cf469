use Rattle.std.proofs.Common.{◌≡◌, ◌+◌, ◌≤◌, sym, ap, subst}
use Rattle.std.specs.Prelude.{OnOk, OnErr}
use Rattle.clmodel.specs.Cells.{byte_count, cells_of, written}
use Rattle.spaces.specs.Space.{Becomes}
use Rattle.spaces.specs.Overlay.{copies, overlaid}
use Rattle.spaces.proofs.PageRows.{as_many}
use Rattle.spaces.proofs.overlay.Overlay.put.Goals as goal

pub change-requires : goal.change-requires
change-requires c =
    let pages = c.self.inside.pages in
    subst (λ z. c.args.at + byte_count c.args.width ≤ z) (as_many c.args.self.now c.self.inside.base.now (copies pages.table) pages.cells.items (sym c.self.view_is)) c.requires

pub returns-clause-changed : goal.returns-clause-changed
returns-clause-changed c =
    let after = overlaid c.self.inside.base.now (copies c.change.new.self.table) c.change.new.self.cells.items in
    subst (λ z. OnOk c.change.result (Becomes z after (written (cells_of z) c.args.at (byte_count c.args.width) c.args.value))) (ap (λ z. z.bytes) c.self.view_is) c.change.ensures.changed

pub returns-clause-same : goal.returns-clause-same
returns-clause-same c =
    let after = overlaid c.self.inside.base.now (copies c.change.new.self.table) c.change.new.self.cells.items in
    subst (λ z. OnErr c.change.result (after ≡ z)) (ap (λ z. z.bytes) c.self.view_is) c.change.ensures.same
