use Rattle.std.proofs.Common.{◌≡◌, ◌+◌, ◌-◌, ◌++◌, length, drop}
use Rattle.lower_expr.specs.Registers.{numbers}
use Rattle.lower_code.specs.Variables.{pass_code}
use Rattle.lower_code.proofs.variables.put_passed.Given as goal

abbrev pub invariant-loop-i : goal.invariant-loop-i
invariant-loop-i l =
    l.code ≡ pass_code (drop (length l.parameters - l.i) l.parameters) (drop (length l.parameters - l.i) (numbers l.arguments)) (l.level.0 + (length l.parameters - l.i)) ++ l.fn.code
