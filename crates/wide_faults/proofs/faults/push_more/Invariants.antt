use Rattle.std.proofs.Common.{◌≡◌, ◌++◌, take}
use Rattle.wide_faults.specs.Faults.{more_names}
use Rattle.wide_faults.proofs.faults.push_more.Given as goal

abbrev pub invariant-loop-name : goal.invariant-loop-name
invariant-loop-name l = l.out.items ≡ l.fn.out.items ++ more_names (take l.name-index l.names)
