use Rattle.std.proofs.Common.{ℕ, ◌%◌, sym, ◌∙◌, subst}
use Rattle.access_list.specs.Cells.{Passes}
use Rattle.access_list.specs.Recent.{in_word}
use Rattle.access_list.proofs.Words.{same_part, one_more}
use Rattle.access_list.proofs.word.ListedWord.bytes_pass.Goals as goal

pub loop-byte-preserved : goal.loop-byte-preserved
loop-byte-preserved c =
    let byte = c.loop-byte.byte in
    let x = c.args.x.now in
    let u = c.args.uniform in
    one_more (λ (b : ℕ). Passes u (in_word c.args.apart.now c.args.self.now (b % 4)) x b) c.args.first byte
    (subst (λ r. Passes u r x byte) (same_part _ ∙ c.byte.ensures) (c.passes.ensures c.if-not-passes.false (λ n. n) byte (sym c.left_at-left.ensures)))
    c.loop-byte.invariant
