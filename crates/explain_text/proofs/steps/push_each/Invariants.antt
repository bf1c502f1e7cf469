use Rattle.std.proofs.Common.{string_bytes}
use Rattle.explain_text.specs.Texts.{AddsShown}
use Rattle.explain_text.proofs.steps.push_each.Given as goal

abbrev pub invariant-loop-at : goal.invariant-loop-at
invariant-loop-at l = AddsShown l.steps l.from l.at (string_bytes l.fn.out) (string_bytes l.out)
