use Rattle.std.proofs.Common.{string_bytes}
use Rattle.explain_text.specs.Texts.{AddsLines}
use Rattle.explain_text.proofs.quotes.push_loops.Given as goal

abbrev pub invariant-loop-number : goal.invariant-loop-number
invariant-loop-number l = AddsLines l.number (string_bytes l.fn.out) (string_bytes l.out)
