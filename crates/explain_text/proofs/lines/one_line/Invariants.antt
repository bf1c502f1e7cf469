use Rattle.std.proofs.Common.{string_bytes}
use Rattle.explain_text.specs.Texts.{IsOneLine}
use Rattle.explain_text.proofs.lines.one_line.Given as goal

abbrev pub invariant-loop-letter : goal.invariant-loop-letter
invariant-loop-letter l = IsOneLine (string_bytes l.line)
