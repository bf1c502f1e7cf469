use Rattle.std.proofs.Common.{◌≡◌, ◌++◌, take}
use Rattle.origins.specs.Names.{parameter_names}
use Rattle.origins.proofs.names.declare_parameters.Given as goal

abbrev pub invariant-loop-i : goal.invariant-loop-i
invariant-loop-i l = l.names.items ≡ l.fn.names.items ++ parameter_names (take l.i l.parameters)
