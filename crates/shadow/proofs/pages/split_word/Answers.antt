use Rattle.std.proofs.Common.{◌≡◌, ◌/◌, ◌%◌, ◌<◌, ◌∙◌, refl, sym, ap, ap₂, ℕ, get_or, subst, length, set, arith}
use Rattle.std.specs.Vec.{with_item}
use Rattle.std.proofs.lemmas.List.{length-set}
use Rattle.shadow.specs.Seen.{row_of, byte_seen, IsApart, word_in, cell_in}
use Rattle.shadow.specs.declared.seen.Seen.TheVariants.{Untouched}
use Rattle.shadow.specs.declared.words.MarkedWord.TheVariants as word
use Rattle.shadow.proofs.Cells.{was_row, was_word, put}
use Rattle.shadow.proofs.Marking.{split_is, split_others, split_same}
use Rattle.shadow.proofs.pages.split_word.Goals as goal

pub returns-clause-apart : goal.returns-clause-apart
returns-clause-apart c =
    let pages = c.args.pages.now.items in
    let n = c.args.number in
    let w = c.index_mut-row.result.now in
    let v = with_item w (n % 64) (word.Apart c.len-place.result) in
    let row : row_of pages (n / 64) ≡ w.items = was_row pages (n / 64) w c.requires.0 c.index_mut-row.ensures.value in
    let many : length (row_of pages (n / 64)) ≡ length w.items = ap length row in
    let inside : n % 64 < length w.items = omega (arith, many, c.requires.1) in
    let p = put pages n v w (word.Apart c.len-place.result) c.requires.0 c.index_mut-row.ensures.value inside refl (length-set w.items (n % 64) (word.Apart c.len-place.result)) in
    subst (λ a. IsApart a n (word_in (set pages (n / 64) v) n)) (sym c.in_ok-push.ensures.items)
    (split_is pages (set pages (n / 64) v) c.args.apart.now.items c.bytes_of-bytes.result n c.len-place.result p (c.len-place.ensures ∙ sym c.deref.ensures.len ∙ ap length c.deref.ensures.value) c.bytes_of-bytes.ensures.word)

pub returns-clause-kept : goal.returns-clause-kept
returns-clause-kept c =
    let pages = c.args.pages.now.items in
    let n = c.args.number in
    let w = c.index_mut-row.result.now in
    let v = with_item w (n % 64) (word.Apart c.len-place.result) in
    let row : row_of pages (n / 64) ≡ w.items = was_row pages (n / 64) w c.requires.0 c.index_mut-row.ensures.value in
    let many : length (row_of pages (n / 64)) ≡ length w.items = ap length row in
    let inside : n % 64 < length w.items = omega (arith, many, c.requires.1) in
    let p = put pages n v w (word.Apart c.len-place.result) c.requires.0 c.index_mut-row.ensures.value inside refl (length-set w.items (n % 64) (word.Apart c.len-place.result)) in
    p.kept

pub returns-clause-others : goal.returns-clause-others
returns-clause-others c =
    let pages = c.args.pages.now.items in
    let n = c.args.number in
    let w = c.index_mut-row.result.now in
    let v = with_item w (n % 64) (word.Apart c.len-place.result) in
    let row : row_of pages (n / 64) ≡ w.items = was_row pages (n / 64) w c.requires.0 c.index_mut-row.ensures.value in
    let many : length (row_of pages (n / 64)) ≡ length w.items = ap length row in
    let inside : n % 64 < length w.items = omega (arith, many, c.requires.1) in
    let p = put pages n v w (word.Apart c.len-place.result) c.requires.0 c.index_mut-row.ensures.value inside refl (length-set w.items (n % 64) (word.Apart c.len-place.result)) in
    λ m h. subst (λ a. IsApart a m (word_in (set pages (n / 64) v) m)) (sym c.in_ok-push.ensures.items)
    (split_others pages (set pages (n / 64) v) c.args.apart.now.items c.bytes_of-bytes.result n c.len-place.result p (c.len-place.ensures ∙ sym c.deref.ensures.len ∙ ap length c.deref.ensures.value) c.bytes_of-bytes.ensures.word m h)

pub returns-clause-same : goal.returns-clause-same
returns-clause-same c =
    let pages = c.args.pages.now.items in
    let n = c.args.number in
    let w = c.index_mut-row.result.now in
    let v = with_item w (n % 64) (word.Apart c.len-place.result) in
    let row : row_of pages (n / 64) ≡ w.items = was_row pages (n / 64) w c.requires.0 c.index_mut-row.ensures.value in
    let many : length (row_of pages (n / 64)) ≡ length w.items = ap length row in
    let inside : n % 64 < length w.items = omega (arith, many, c.requires.1) in
    let p = put pages n v w (word.Apart c.len-place.result) c.requires.0 c.index_mut-row.ensures.value inside refl (length-set w.items (n % 64) (word.Apart c.len-place.result)) in
    let bytes : (k : ℕ) → k < 4 → get_or c.bytes_of-bytes.result.bytes k Untouched ≡ byte_seen c.args.apart.now.items n (word_in pages n) k =
    λ k small. c.bytes_of-bytes.ensures.bytes k small ∙ ap₂ (λ a x. byte_seen a n x k) c.deref-2.ensures.value
    (sym (was_word pages n w c.index-word.result.now c.requires.0 c.index_mut-row.ensures.value inside c.index-word.ensures)) in
    λ byte. subst (λ a. cell_in a (set pages (n / 64) v) byte ≡ cell_in c.args.apart.now.items pages byte) (sym c.in_ok-push.ensures.items)
    (split_same pages (set pages (n / 64) v) c.args.apart.now.items c.bytes_of-bytes.result n c.len-place.result p (c.len-place.ensures ∙ sym c.deref.ensures.len ∙ ap length c.deref.ensures.value) c.bytes_of-bytes.ensures.word bytes byte)
