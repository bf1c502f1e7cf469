use Rattle.std.proofs.Common.{◌≡◌, ◌/◌, ◌%◌, ◌<◌, ◌∙◌, sym, ap, subst, length, []}
use Rattle.std.proofs.lemmas.List.{get_or_default}
use Rattle.shadow.specs.Seen.{row_of, word_in, IsApart}
use Rattle.shadow.specs.declared.words.Bytes.{Bytes}
use Rattle.shadow.specs.declared.words.MarkedWord.TheVariants as word
use Rattle.shadow.proofs.Cells.{was_row, was_word, apart_placed}
use Rattle.shadow.proofs.Marking.{part_put}
use Rattle.shadow.proofs.pages.mark_byte.Goals as goal

pub returns-clause-marked : goal.returns-clause-marked
returns-clause-marked c =
    let pages = c.args.pages.now in
    let apart = c.args.apart.now.items in
    let n = c.args.byte / 4 in
    let w = c.index-pages-number.result in
    let b = c.index_mut.result.now in
    let at = apart_placed apart pages n c.requires in
    let row : row_of pages (n / 64) ≡ w.items = was_row pages (n / 64) w at.0 c.index-pages-number.is in
    let inside : n % 64 < length w.items = subst (λ z. n % 64 < length z) row at.1 in
    let here : word_in pages n ≡ word.Apart c.in-Apart.at = was_word pages n w c.index.result.now at.0 c.index-pages-number.is inside c.index.ensures ∙ c.in-Apart.is in
    let is : IsApart apart n (word.Apart c.in-Apart.at) = subst (IsApart apart n) here c.requires in
    let own : b.word ≡ n = ap (λ (z : Bytes). z.word) (c.index_mut.ensures.value ∙ sym (get_or_default apart c.in-Apart.at (record { word = 0; bytes = [] }) b is.0)) ∙ is.1 in
    part_put pages apart c.args.byte c.in-Apart.at (record { word = b.word; bytes = c.mark_in.new.bytes }) b c.args.mark c.mark_in.result
    here is.0 c.index_mut.ensures.value own own c.mark_in.ensures.marked c.mark_in.ensures.news
