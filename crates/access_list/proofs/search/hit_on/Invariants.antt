use Rattle.std.proofs.Common.{◌≡◌}
use Rattle.std.specs.Prelude.{drop}
use Rattle.access_list.specs.Log.{hit_on}
use Rattle.access_list.proofs.search.hit_on.Given as goal

abbrev pub invariant-loop-y : goal.invariant-loop-y
invariant-loop-y l = hit_on l.rule l.x l.byte l.log ≡ hit_on l.rule l.x l.byte (drop l.y-index l.log)
