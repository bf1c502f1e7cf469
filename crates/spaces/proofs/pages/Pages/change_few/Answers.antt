use Rattle.std.proofs.Common.{◌≡◌, ◌∙◌, sym, ap}
use Rattle.clmodel.specs.Cells.{cells_of, written}
use Rattle.spaces.specs.Overlay.{copies, overlaid}
use Rattle.spaces.proofs.PageRows.{overlaid_many, overlaid_same, put_whole, on_err}
use Rattle.spaces.proofs.pages.Pages.change_few.Goals as goal

pub returns-in_err-copy-clause-same : goal.returns-in_err-copy-clause-same
returns-in_err-copy-clause-same c =
    let old = c.args.self.now in
    on_err c.from_residual.result (overlaid_same c.args.base.now (copies old.table) old.cells.items (copies c.copy.new.self.table) c.copy.new.self.cells.items c.copy.ensures.bytes)

pub returns-in_err-copy-2-clause-same : goal.returns-in_err-copy-2-clause-same
returns-in_err-copy-2-clause-same c =
    let base = c.args.base.now in
    let old = c.args.self.now in
    let first = c.copy.new.self in
    let second = c.copy-2.new.self in
    on_err c.from_residual-in_err-copy-2.result
    (overlaid_same base (copies first.table) first.cells.items (copies second.table) second.cells.items c.copy-2.ensures.bytes
    ∙ overlaid_same base (copies old.table) old.cells.items (copies first.table) first.cells.items c.copy.ensures.bytes)

pub returns-clause-changed : goal.returns-clause-changed
returns-clause-changed c =
    let base = c.args.base.now in
    let old = c.args.self.now in
    let first = c.copy.new.self in
    let second = c.copy-2.new.self in
    let last = c.put_by_bytes.new.self in
    let same : overlaid base (copies second.table) second.cells.items ≡ overlaid base (copies old.table) old.cells.items =
    overlaid_same base (copies first.table) first.cells.items (copies second.table) second.cells.items c.copy-2.ensures.bytes
    ∙ overlaid_same base (copies old.table) old.cells.items (copies first.table) first.cells.items c.copy.ensures.bytes in
    record {
      length_same = overlaid_many base (copies last.table) last.cells.items ∙ sym (overlaid_many base (copies old.table) old.cells.items);
      cells_are = λ byte.
          put_whole base (copies second.table) second.cells.items (copies last.table) last.cells.items c.args.first c.args.count c.args.value c.requires.inside c.put_by_bytes.ensures.bytes byte
          ∙ ap (λ z. written (cells_of z) c.args.first c.args.count c.args.value byte) same;
    }
