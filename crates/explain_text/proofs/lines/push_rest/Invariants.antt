use Rattle.std.proofs.Common.{◌≡◌, ◌++◌, take, string_bytes}
use Rattle.explain_text.specs.Texts.{rest_text}
use Rattle.explain_text.proofs.lines.push_rest.Given as goal

abbrev pub invariant-loop-number : goal.invariant-loop-number
invariant-loop-number l = string_bytes l.out ≡ string_bytes l.fn.out ++ rest_text (take l.number-index l.numbers)
