use Rattle.std.proofs.Common.{◌≡◌, ◌+◌, ◌*◌, ◌/◌, ◌<◌, ◌≤◌, ◌∙◌, ◌⊎◌, inl, inr, None, sym, ap, arith}
use Rattle.std.proofs.lemmas.Bool.{cases_lt}
use Rattle.shadow.specs.Seen.{mark_of, against, cell_in}
use Rattle.shadow.proofs.Halves.{eight_bytes}
use Rattle.shadow.proofs.Marking.{half_marks}
use Rattle.shadow.proofs.pages.Pages.passes_whole.Goals as goal

pub returns-else-count-eq-WORD_BYTES : goal.returns-else-count-eq-WORD_BYTES
returns-else-count-eq-WORD_BYTES c passes byte low high = go (cases_lt byte (c.args.first + 4))
  where
    go : (byte < c.args.first + 4) ⊎ (c.args.first + 4 ≤ byte) → against c.args.uniform (mark_of c.args.x.now byte) byte (cell_in c.args.self.now.apart.items c.args.self.now.pages.items byte) ≡ None
    go (inl b) =
        let at : byte / 4 ≡ c.args.first / 4 = omega (arith, low, b, c.if-first-ne0.false) in
        let start : c.args.x.now.first + 0 ≡ 4 * (c.args.first / 4) = omega (arith, c.requires.first, c.if-first-ne0.false) in
        ap (λ m. against c.args.uniform m byte (cell_in c.args.self.now.apart.items c.args.self.now.pages.items byte)) (sym (half_marks c.args.x.now c.word_mark.result 0 (c.args.first / 4) start c.word_mark.ensures byte at))
        ∙ c.passes-low.ensures c.if-low.true byte at
    go (inr b) =
        let many : c.args.count ≡ 8 = eight_bytes c.args.x.now.width c.args.count c.requires.count c.if-count-lt-WORD_BYTES.false c.if-count-eq-WORD_BYTES.false in
        let at : byte / 4 ≡ c.args.first / 4 + 1 = omega (arith, b, high, many, c.if-first-ne0.false) in
        let start : c.args.x.now.first + 4 ≡ 4 * (c.args.first / 4 + 1) = omega (arith, c.requires.first, c.if-first-ne0.false) in
        ap (λ m. against c.args.uniform m byte (cell_in c.args.self.now.apart.items c.args.self.now.pages.items byte))
        (sym (half_marks c.args.x.now c.word_mark-else-count-eq-WORD_BYTES.result 4 (c.args.first / 4 + 1) start c.word_mark-else-count-eq-WORD_BYTES.ensures byte at))
        ∙ c.passes.ensures passes byte at
