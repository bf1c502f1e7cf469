use Rattle.std.proofs.Common.{string_bytes}
use Rattle.explain_text.proofs.Added.{lines_more}
use Rattle.explain_text.proofs.quotes.write_quote.Goals as goal

pub returns : goal.returns
returns c =
    lines_more 1 1 (string_bytes c.args.out.now) (string_bytes c.push_line.new.out) (string_bytes c.push_line-2.new.out) c.in_ok-push_line.ensures c.in_ok-push_line-2.ensures
