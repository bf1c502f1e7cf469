use Rattle.std.proofs.Common.{◌≡◌, ℕ, ◌+◌, ◌-◌, ◌*◌, ◌%◌, ◌<◌, ◌≤◌, ◌∙◌, ◌++◌, take, drop, sym, ap, arith}
use Rattle.std.specs.Prelude.{length}
use Rattle.clmodel.specs.Cells.{byte_count, written}
use Rattle.spaces.specs.Overlay.{copies, overlaid_cells, row_cells}
use Rattle.spaces.proofs.Copies.{put_back, put_in_copy}
use Rattle.spaces.proofs.PageRows.{overlaid_many, put_whole}
use Rattle.spaces.proofs.pages.Pages.change.Goals as goal

pub returns-then-at-count-le-PAGE-clause-changed : goal.returns-then-at-count-le-PAGE-clause-changed
returns-then-at-count-le-PAGE-clause-changed c =
    let base = c.args.base.now in
    let old = c.args.self.now in
    let page = copies old.table in
    let at = c.args.at in
    let copy = c.copy_of-copy.result in
    let count = byte_count c.args.width in
    let more = take old.cells.len (c.put_in.new.row ++ drop (length c.put_in.new.row) old.cells.items) in
    let some : 0 < copy = omega (arith, c.if-copy-gt0.true) in
    let inside : at % 256 + count ≤ 256 = omega (arith, c.if-at-count-le-PAGE.true, c.bytes-count.ensures.value) in
    let long : length c.put_in.new.row ≡ length old.cells.items = c.put_in.ensures.same_length ∙ ap length c.as_mut_slice.ensures.value in
    let kept : more ≡ c.put_in.new.row = put_back c.put_in.new.row old.cells.items old.cells.len (omega (arith, old.cells.ok.0)) long in
    let put : (k : ℕ) → row_cells more k ≡ written (row_cells old.cells.items) ((copy - 1) * 256 + at % 256) count c.args.value k =
    λ k. ap (λ z. row_cells z k) kept ∙ c.put_in.ensures.bytes k
    ∙ ap (λ z. written (row_cells z) ((copy - 1) * 256 + at % 256) count c.args.value k) c.as_mut_slice.ensures.value in
    let bytes : (byte : ℕ) → overlaid_cells base page more byte ≡ written (overlaid_cells base page old.cells.items) at count c.args.value byte =
    put_in_copy base page old.numbers.items old.cells.items more at copy count c.args.value old.numbered (sym c.copy_of-copy.ensures) some inside put in
    record {
      length_same = overlaid_many base page more ∙ sym (overlaid_many base page old.cells.items);
      cells_are = put_whole base page old.cells.items page more at count c.args.value c.requires bytes;
    }
