use Rattle.std.proofs.Common.{◌≡◌}
use Rattle.std.specs.Prelude.{drop}
use Rattle.access_list.specs.Log.{across}
use Rattle.access_list.proofs.list.ListLog.conflicts_with.Given as goal

abbrev pub invariant-loop-i : goal.invariant-loop-i
invariant-loop-i g l =
    across l.self.uniform l.self.entries.items (g.M.Logged.log l.later).accesses
    ≡ across l.self.uniform l.self.entries.items (drop l.i (g.M.Logged.log l.later).accesses)
