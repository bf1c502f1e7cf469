use Rattle.std.proofs.Common.{take, string_bytes}
use Rattle.explain_text.specs.Texts.{AreItems}
use Rattle.explain_text.proofs.items.items_text.Given as goal

abbrev pub invariant-loop-place : goal.invariant-loop-place
invariant-loop-place l = AreItems l.source (take l.place l.whole.items.items) (string_bytes l.out)
