use Rattle.std.proofs.Common.{◌≡◌, ◌/◌, ◌%◌, ◌<◌, refl, ap, length, set, arith}
use Rattle.std.specs.Vec.{with_item}
use Rattle.std.proofs.lemmas.List.{length-set}
use Rattle.shadow.specs.Seen.{row_of}
use Rattle.shadow.proofs.Cells.{was_row, was_word, put}
use Rattle.shadow.proofs.Marking.{word_marked}
use Rattle.shadow.proofs.pages.mark_word.Goals as goal

pub returns-clause-marked : goal.returns-clause-marked
returns-clause-marked c apart =
    let pages = c.args.pages.now.items in
    let n = c.args.number in
    let w = c.index_mut-row.result.now in
    let s = c.mark_whole.new.word in
    let v = with_item w (n % 64) s in
    let row : row_of pages (n / 64) ≡ w.items = was_row pages (n / 64) w c.requires.page.0 c.index_mut-row.ensures.value in
    let many : length (row_of pages (n / 64)) ≡ length w.items = ap length row in
    let inside : n % 64 < length w.items = omega (arith, many, c.requires.page.1) in
    word_marked apart pages (set pages (n / 64) v) n s c.index_mut.result.now c.args.mark c.mark_whole.result
    (put pages n v w s c.requires.page.0 c.index_mut-row.ensures.value inside refl (length-set w.items (n % 64) s))
    (was_word pages n w c.index_mut.result.now c.requires.page.0 c.index_mut-row.ensures.value inside c.index_mut.ensures.value)
    (c.mark_whole.ensures.marked apart n) (λ e. c.mark_whole.ensures.quiet e apart n) (λ e. c.mark_whole.ensures.told e apart n)

pub returns-clause-kept : goal.returns-clause-kept
returns-clause-kept c =
    let pages = c.args.pages.now.items in
    let n = c.args.number in
    let w = c.index_mut-row.result.now in
    let s = c.mark_whole.new.word in
    let v = with_item w (n % 64) s in
    let row : row_of pages (n / 64) ≡ w.items = was_row pages (n / 64) w c.requires.page.0 c.index_mut-row.ensures.value in
    let many : length (row_of pages (n / 64)) ≡ length w.items = ap length row in
    let inside : n % 64 < length w.items = omega (arith, many, c.requires.page.1) in
    (put pages n v w s c.requires.page.0 c.index_mut-row.ensures.value inside refl (length-set w.items (n % 64) s)).kept

pub returns-clause-others : goal.returns-clause-others
returns-clause-others c =
    let pages = c.args.pages.now.items in
    let n = c.args.number in
    let w = c.index_mut-row.result.now in
    let s = c.mark_whole.new.word in
    let v = with_item w (n % 64) s in
    let row : row_of pages (n / 64) ≡ w.items = was_row pages (n / 64) w c.requires.page.0 c.index_mut-row.ensures.value in
    let many : length (row_of pages (n / 64)) ≡ length w.items = ap length row in
    let inside : n % 64 < length w.items = omega (arith, many, c.requires.page.1) in
    (put pages n v w s c.requires.page.0 c.index_mut-row.ensures.value inside refl (length-set w.items (n % 64) s)).others
