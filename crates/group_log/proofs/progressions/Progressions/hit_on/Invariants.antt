use Rattle.std.proofs.Common.{◌≡◌}
use Rattle.std.specs.Prelude.{drop}
use Rattle.access_list.specs.Log.{hit_on}
use Rattle.group_log.proofs.progressions.Progressions.hit_on.Given as goal

abbrev pub invariant-loop-i : goal.invariant-loop-i
invariant-loop-i l = hit_on l.rule l.x l.byte l.self.items ≡ hit_on l.rule l.x l.byte (drop l.i l.self.items)
