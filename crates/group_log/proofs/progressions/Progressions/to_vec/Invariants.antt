use Rattle.std.proofs.Common.{◌≡◌, take}
use Rattle.group_log.proofs.progressions.Progressions.to_vec.Given as goal

abbrev pub invariant-loop-i : goal.invariant-loop-i
invariant-loop-i l = l.entries.items ≡ take l.i l.self.items
