use Rattle.std.proofs.Common.{◌==◌, ◌+◌, ◌*◌, ◌/◌, ap₂, sym, ◌∙◌, arith, length}
use Rattle.text_lines.proofs.Counted.{count_rest, feeds_counted}
use Rattle.text_lines.proofs.feeds.line_feeds.Goals as goal

pub returns-clause-value : goal.returns-clause-value
returns-clause-value c =
    let all = count_rest (λ byte. byte == 10) (128 * (length c.args.bytes.now / 128)) c.args.bytes.now (omega arith) in
    ap₂ (λ a b. a + b) c.feeds_in_blocks.ensures.value (c.from.ensures ∙ c.feeds_in_block.ensures.value) ∙ sym all ∙ sym (feeds_counted c.args.bytes.now)
