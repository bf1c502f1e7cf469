use Rattle.std.proofs.Common.{take}
use Rattle.wide_text.specs.Told.{AreReplies}
use Rattle.wide_text.proofs.text.replies_text.Given as goal

abbrev pub invariant-loop-number : goal.invariant-loop-number
invariant-loop-number l = AreReplies (take l.number l.replies) l.out.items
