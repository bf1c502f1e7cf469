use Rattle.std.proofs.Common.{take, string_bytes}
use Rattle.explain_text.specs.Texts.{AreSentences}
use Rattle.explain_text.proofs.whole.reasons_text.Given as goal

abbrev pub invariant-loop-reason : goal.invariant-loop-reason
invariant-loop-reason l = AreSentences (take l.reason-index l.why) (string_bytes l.out)
