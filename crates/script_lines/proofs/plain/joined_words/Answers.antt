use Rattle.std.proofs.Common.{List, ℕ, Bor}
use Rattle.script_lines.proofs.Steps.{words_more}
use Rattle.script_lines.proofs.plain.joined_words.Goals as goal

pub loop-index-preserved : goal.loop-index-preserved
loop-index-preserved c =
    words_more (λ (word : Bor (List ℕ)). word.now) c.args.words.now c.loop-index.index _ c.loop-index-test.true c.loop-index.invariant c.in_ok-put_space.ensures c.in_ok-extend_from_slice.ensures.items
