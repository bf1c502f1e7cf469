use Rattle.std.proofs.Common.{◌≡◌, ℕ}
use Rattle.std.specs.Prelude.{drop}
use Rattle.access_list.specs.Log.{hit_on}
use Rattle.access_list.proofs.search.is_clear.Given as goal

abbrev pub invariant-loop-y : goal.invariant-loop-y
invariant-loop-y l = (byte : ℕ) → hit_on l.rule l.x byte l.log ≡ hit_on l.rule l.x byte (drop l.y-index l.log)
