use Rattle.std.proofs.Common.{◌≡◌, ℕ, ◌+◌, ◌-◌, ◌*◌, ◌/◌, ◌%◌, ◌≤◌, ◌∙◌, ◌++◌, take, drop, sym, ap, subst, arith}
use Rattle.std.specs.Prelude.{length}
use Rattle.clmodel.specs.Cells.{byte_count, cells_of, written}
use Rattle.spaces.specs.Overlay.{copies, overlaid, overlaid_cells, row_cells}
use Rattle.spaces.proofs.Copies.{put_back, put_in_copy}
use Rattle.spaces.proofs.PageRows.{overlaid_many, overlaid_same, put_whole, on_err}
use Rattle.spaces.proofs.pages.Pages.change_new.Goals as goal

pub returns-in_err-copy-clause-same : goal.returns-in_err-copy-clause-same
returns-in_err-copy-clause-same c =
    let old = c.args.self.now in
    on_err c.from_residual.result (overlaid_same c.args.base.now (copies old.table) old.cells.items (copies c.copy.new.self.table) c.copy.new.self.cells.items c.copy.ensures.bytes)

pub returns-in_err-copy-2-clause-same : goal.returns-in_err-copy-2-clause-same
returns-in_err-copy-2-clause-same c =
    let base = c.args.base.now in
    let old = c.args.self.now in
    let first = c.copy.new.self in
    let second = c.copy-then-at-count-gt-PAGE.new.self in
    on_err c.from_residual-in_err-copy-2.result
    (overlaid_same base (copies first.table) first.cells.items (copies second.table) second.cells.items c.copy-then-at-count-gt-PAGE.ensures.bytes
    ∙ overlaid_same base (copies old.table) old.cells.items (copies first.table) first.cells.items c.copy.ensures.bytes)

pub returns-then-at-count-gt-PAGE-clause-changed : goal.returns-then-at-count-gt-PAGE-clause-changed
returns-then-at-count-gt-PAGE-clause-changed c =
    let base = c.args.base.now in
    let old = c.args.self.now in
    let first = c.copy.new.self in
    let second = c.copy-then-at-count-gt-PAGE.new.self in
    let last = c.put_by_bytes.new.self in
    let count = byte_count c.args.width in
    let same : overlaid base (copies second.table) second.cells.items ≡ overlaid base (copies old.table) old.cells.items =
    overlaid_same base (copies first.table) first.cells.items (copies second.table) second.cells.items c.copy-then-at-count-gt-PAGE.ensures.bytes
    ∙ overlaid_same base (copies old.table) old.cells.items (copies first.table) first.cells.items c.copy.ensures.bytes in
    let bytes : (byte : ℕ) → overlaid_cells base (copies last.table) last.cells.items byte ≡ written (overlaid_cells base (copies second.table) second.cells.items) c.args.at count c.args.value byte =
    subst (λ n. (byte : ℕ) → overlaid_cells base (copies last.table) last.cells.items byte ≡ written (overlaid_cells base (copies second.table) second.cells.items) c.args.at n c.args.value byte)
    c.bytes-count.ensures.value c.put_by_bytes.ensures.bytes in
    record {
      length_same = overlaid_many base (copies last.table) last.cells.items ∙ sym (overlaid_many base (copies old.table) old.cells.items);
      cells_are = λ byte. put_whole base (copies second.table) second.cells.items (copies last.table) last.cells.items c.args.at count c.args.value c.requires bytes byte
          ∙ ap (λ z. written (cells_of z) c.args.at count c.args.value byte) same;
    }

pub returns-clause-changed : goal.returns-clause-changed
returns-clause-changed c =
    let base = c.args.base.now in
    let old = c.args.self.now in
    let first = c.copy.new.self in
    let page = copies first.table in
    let at = c.args.at in
    let copy = c.in_ok-copy.copy in
    let count = byte_count c.args.width in
    let more = take first.cells.len (c.put_in.new.row ++ drop (length c.put_in.new.row) first.cells.items) in
    let is : page (at / 256) ≡ copy = c.in_ok-copy.ensures.copied.1 in
    let inside : at % 256 + count ≤ 256 = omega (arith, c.if-at-count-gt-PAGE.false, c.bytes-count.ensures.value) in
    let same : overlaid base page first.cells.items ≡ overlaid base (copies old.table) old.cells.items =
    overlaid_same base (copies old.table) old.cells.items page first.cells.items c.copy.ensures.bytes in
    let long : length c.put_in.new.row ≡ length first.cells.items = c.put_in.ensures.same_length ∙ ap length c.as_mut_slice.ensures.value in
    let kept : more ≡ c.put_in.new.row = put_back c.put_in.new.row first.cells.items first.cells.len (omega (arith, first.cells.ok.0)) long in
    let put : (k : ℕ) → row_cells more k ≡ written (row_cells first.cells.items) ((copy - 1) * 256 + at % 256) count c.args.value k =
    λ k. ap (λ z. row_cells z k) kept ∙ c.put_in.ensures.bytes k
    ∙ ap (λ z. written (row_cells z) ((copy - 1) * 256 + at % 256) count c.args.value k) c.as_mut_slice.ensures.value in
    let bytes : (byte : ℕ) → overlaid_cells base page more byte ≡ written (overlaid_cells base page first.cells.items) at count c.args.value byte =
    put_in_copy base page first.numbers.items first.cells.items more at copy count c.args.value first.numbered is c.in_ok-copy.ensures.copied.0 inside put in
    record {
      length_same = overlaid_many base page more ∙ sym (overlaid_many base (copies old.table) old.cells.items);
      cells_are = λ byte. put_whole base page first.cells.items page more at count c.args.value c.requires bytes byte
          ∙ ap (λ z. written (cells_of z) at count c.args.value byte) same;
    }
