use Rattle.std.proofs.Common.{string_bytes}
use Rattle.explain_text.proofs.Added.{lines_more, no_lines}
use Rattle.explain_text.proofs.whole.push_parameters.Goals as goal

pub loop-parameter-init : goal.loop-parameter-init
loop-parameter-init c = no_lines (string_bytes c.args.out.now)

pub loop-parameter-preserved : goal.loop-parameter-preserved
loop-parameter-preserved c =
    lines_more c.loop-parameter.parameter-index 1 (string_bytes c.args.out.now) (string_bytes c.loop-parameter.out) (string_bytes c.push_line.new.out) c.loop-parameter.invariant
    c.in_ok-push_line.ensures
