use Rattle.std.proofs.Common.{string_bytes}
use Rattle.explain_text.proofs.Added.{lines_more, no_lines}
use Rattle.explain_text.proofs.quotes.push_calls.Goals as goal

pub loop-number-init : goal.loop-number-init
loop-number-init c = no_lines (string_bytes c.args.out.now)

pub loop-number-preserved : goal.loop-number-preserved
loop-number-preserved c =
    lines_more c.loop-number.number 1 (string_bytes c.args.out.now) (string_bytes c.loop-number.out) (string_bytes c.push_line.new.out) c.loop-number.invariant c.in_ok-push_line.ensures
