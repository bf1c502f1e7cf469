use Rattle.std.proofs.Common.{List, ℕ, Bor, arith}
use Rattle.written_scripts.proofs.Steps.{text_more}
use Rattle.written_scripts.proofs.lines.lines_text.Goals as goal

pub loop-index-preserved : goal.loop-index-preserved
loop-index-preserved c =
    text_more (λ (line : Bor (List ℕ)). line.now) c.args.lines.now c.loop-index.index _ (omega (arith, c.loop-index-test.true, c.requires)) c.loop-index.invariant c.in_ok-extend_from_slice.ensures.items c.in_ok-push.ensures.items
