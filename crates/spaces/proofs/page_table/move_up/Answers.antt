use Rattle.std.proofs.Common.{◌≡◌, ◌+◌, ◌-◌, ◌∙◌, ◌++◌, replicate, length, take, drop, refl, ap, ap₂, arith}
use Rattle.std.proofs.lemmas.List.{take_all}
use Rattle.std.specs.Prelude.{vec_len}
use Rattle.spaces.specs.Overlay.{copy_at}
use Rattle.spaces.proofs.PageTables.{moved_row, turned}
use Rattle.spaces.proofs.page_table.move_up.Goals as goal

pub returns-clause-same : goal.returns-clause-same
returns-clause-same c other =
    let row = c.args.row.now.items in
    let more = c.args.first - c.min-lowest.result in
    let n = c.len-2.result + more in
    let many : vec_len c.args.row.now ≡ length row = omega (arith, c.args.row.now.ok.0) in
    let added : n - vec_len c.args.row.now ≡ more = omega (arith, c.len-2.ensures) in
    let longer : c.resize.new.self.items ≡ row ++ replicate more 0 =
    c.in_ok-resize.ensures.items ∙ ap₂ (λ xs k. xs ++ replicate k 0) (take_all n row (omega (arith, many, c.len-2.ensures))) added in
    let place : vec_len c.resize.new.self - more ≡ length row = omega (arith, c.in_ok-resize.ensures.len, many, c.len-2.ensures) in
    let moved : c.rotate_right.new.self.items ≡ replicate more 0 ++ row =
    c.rotate_right.ensures.items
    ∙ ap₂ (λ k xs. drop k xs ++ take k xs) place longer
    ∙ turned row (replicate more 0) (length row) refl in
    ap (λ z. copy_at c.min-lowest.result z other) moved ∙ moved_row row c.args.first c.min-lowest.result more other (omega arith)
