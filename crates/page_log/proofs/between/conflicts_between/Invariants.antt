use Rattle.std.proofs.Common.{◌≡◌}
use Rattle.std.specs.Prelude.{drop}
use Rattle.access_list.specs.Log.{across}
use Rattle.page_log.proofs.between.conflicts_between.Given as goal

abbrev pub invariant-loop-i : goal.invariant-loop-i
invariant-loop-i g l =
    across l.uniform (g.L.Logged.log l.earlier).accesses (g.M.Logged.log l.later).accesses
    ≡ across l.uniform (g.L.Logged.log l.earlier).accesses (drop l.i (g.M.Logged.log l.later).accesses)
