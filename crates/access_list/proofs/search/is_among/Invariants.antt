use Rattle.std.specs.Prelude.{drop}
use Rattle.access_list.specs.Log.{IsThere}
use Rattle.access_list.proofs.search.is_among.Given as goal

abbrev pub invariant-loop-y : goal.invariant-loop-y
invariant-loop-y l = IsThere l.log l.x → IsThere (drop l.y-index l.log) l.x
