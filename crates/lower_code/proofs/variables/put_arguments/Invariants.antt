use Rattle.std.proofs.Common.{◌≡◌, ◌-◌, ◌++◌, length, drop}
use Rattle.lower_code.specs.Variables.{arguments_code}
use Rattle.lower_code.proofs.variables.put_arguments.Given as goal

abbrev pub invariant-loop-i : goal.invariant-loop-i
invariant-loop-i l = l.code ≡ arguments_code (drop (length l.parameters - l.i) l.parameters) (length l.parameters - l.i) ++ l.fn.code
