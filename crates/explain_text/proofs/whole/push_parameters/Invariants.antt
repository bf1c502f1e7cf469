use Rattle.std.proofs.Common.{string_bytes}
use Rattle.explain_text.specs.Texts.{AddsLines}
use Rattle.explain_text.proofs.whole.push_parameters.Given as goal

abbrev pub invariant-loop-parameter : goal.invariant-loop-parameter
invariant-loop-parameter l = AddsLines l.parameter-index (string_bytes l.fn.out) (string_bytes l.out)
