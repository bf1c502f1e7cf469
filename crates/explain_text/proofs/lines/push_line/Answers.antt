use Rattle.std.proofs.Common.{string_bytes}
use Rattle.explain_text.proofs.Added.{line_added}
use Rattle.explain_text.proofs.lines.push_line.Goals as goal

pub returns : goal.returns
returns c =
    line_added (string_bytes c.args.out.now) (string_bytes c.in_ok-line.line) c.as_str.result.now (string_bytes c.push_both.new.out) c.as_str.ensures.value c.in_ok-line.ensures
    c.in_ok-push_both.ensures
