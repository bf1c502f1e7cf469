use Rattle.std.proofs.Common.{◌+◌, ◌*◌, ◌%◌, ◌∙◌, ◌||◌, Bool, sym, ap, subst, arith}
use Rattle.shadow.specs.Seen.{mark_of, byte_mark, cell_in, IsMarked}
use Rattle.shadow.proofs.Halves.{eight_bytes}
use Rattle.shadow.proofs.Marking.{same_marks, marked_both, half_covered}
use Rattle.shadow.proofs.pages.mark_words.Goals as goal

pub returns-then-count-eq-WORD_BYTES : goal.returns-then-count-eq-WORD_BYTES
returns-then-count-eq-WORD_BYTES c apart =
    let x = c.args.x.now in
    let n = c.args.number in
    let old = cell_in apart c.args.pages.now.items in
    let new = cell_in apart c.mark_word-low.new.pages.items in
    subst (λ k. IsMarked old new (mark_of x) (4 * n) k c.mark_word-low.result) (sym c.if-count-eq-WORD_BYTES.true)
    (same_marks old new (λ byte. byte_mark c.word_mark.result (byte % 4)) (mark_of x) (4 * n) 4 c.mark_word-low.result
    (half_covered x c.word_mark.result 0 n (omega (arith, c.requires.first)) c.word_mark.ensures) (c.mark_word-low.ensures.marked apart))

pub returns-then-low : goal.returns-then-low
returns-then-low c apart =
    let x = c.args.x.now in
    let n = c.args.number in
    let here = c.mark_word-low.result in
    let there = c.mark_word-high.result in
    let old = cell_in apart c.args.pages.now.items in
    let mid = cell_in apart c.mark_word-low.new.pages.items in
    let new = cell_in apart c.mark_word-high.new.pages.items in
    marked_both old mid new (mark_of x) (4 * n) (4 * (n + 1)) 4 4 c.args.count here there here (omega arith) (eight_bytes x.width c.args.count c.requires.count c.requires.whole c.if-count-eq-WORD_BYTES.false)
    (ap (λ (z : Bool). z || there) c.if-low.true ∙ sym c.if-low.true)
    (same_marks old mid (λ byte. byte_mark c.word_mark.result (byte % 4)) (mark_of x) (4 * n) 4 here
    (half_covered x c.word_mark.result 0 n (omega (arith, c.requires.first)) c.word_mark.ensures) (c.mark_word-low.ensures.marked apart))
    (same_marks mid new (λ byte. byte_mark c.word_mark-2.result (byte % 4)) (mark_of x) (4 * (n + 1)) 4 there
    (half_covered x c.word_mark-2.result 4 (n + 1) (omega (arith, c.requires.first)) c.word_mark-2.ensures) (c.mark_word-high.ensures.marked apart))

pub returns-else-low : goal.returns-else-low
returns-else-low c apart =
    let x = c.args.x.now in
    let n = c.args.number in
    let here = c.mark_word-low.result in
    let there = c.mark_word-high.result in
    let old = cell_in apart c.args.pages.now.items in
    let mid = cell_in apart c.mark_word-low.new.pages.items in
    let new = cell_in apart c.mark_word-high.new.pages.items in
    marked_both old mid new (mark_of x) (4 * n) (4 * (n + 1)) 4 4 c.args.count here there there (omega arith) (eight_bytes x.width c.args.count c.requires.count c.requires.whole c.if-count-eq-WORD_BYTES.false)
    (ap (λ (z : Bool). z || there) c.if-low.false)
    (same_marks old mid (λ byte. byte_mark c.word_mark.result (byte % 4)) (mark_of x) (4 * n) 4 here
    (half_covered x c.word_mark.result 0 n (omega (arith, c.requires.first)) c.word_mark.ensures) (c.mark_word-low.ensures.marked apart))
    (same_marks mid new (λ byte. byte_mark c.word_mark-2.result (byte % 4)) (mark_of x) (4 * (n + 1)) 4 there
    (half_covered x c.word_mark-2.result 4 (n + 1) (omega (arith, c.requires.first)) c.word_mark-2.ensures) (c.mark_word-high.ensures.marked apart))
