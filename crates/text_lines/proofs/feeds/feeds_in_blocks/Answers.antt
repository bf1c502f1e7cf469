use Rattle.std.proofs.Common.{◌==◌, ◌+◌, ◌*◌, ap₂, sym, ◌∙◌, arith}
use Rattle.text_lines.proofs.Counted.{count_between}
use Rattle.text_lines.proofs.feeds.feeds_in_blocks.Goals as goal

pub loop-index-preserved : goal.loop-index-preserved
loop-index-preserved c =
    let more = count_between (λ byte. byte == 10) (128 * c.loop-index.index) (128 * c.loop-index.index + 128) (128 * (c.loop-index.index + 1)) c.args.bytes.now (omega arith) (omega arith) in
    record {
      value = ap₂ (λ a b. a + b) c.loop-index.invariant.value (c.from-count.ensures ∙ c.feeds_in_block.ensures.value) ∙ sym more;
      within = omega (arith, c.feeds_in_block.ensures.within, c.from-count.ensures);
    }
