use Rattle.std.proofs.Common.{◌≡◌, take}
use Rattle.access_list.specs.Log.{hit}
use Rattle.page_log.proofs.between.hit_in.Given as goal

abbrev pub invariant-loop-i : goal.invariant-loop-i
invariant-loop-i g l = l.found ≡ hit l.rule l.x (take l.i (g.L.Logged.log l.log).accesses)
