use Rattle.std.proofs.Common.{◌≡◌, take}
use Rattle.lower_code.specs.Variables.{scope_after_all}
use Rattle.lower_code.specs.Trees.{all_of}
use Rattle.lower_code.proofs.variables.declare_all.Given as goal

abbrev pub invariant-loop-i : goal.invariant-loop-i
invariant-loop-i l = l.scope ≡ scope_after_all l.fn.scope (all_of (take l.i l.statements))
