use Rattle.std.proofs.Common.{◌≡◌, drop}
use Rattle.lower_expr.specs.Scope.{Scope}
use Rattle.lower_code.specs.Variables.{parameter_variables}
use Rattle.lower_code.specs.Growth.{KeepsOuter}
use Rattle.lower_code.proofs.variables.declare_parameters.Given as goal

abbrev pub invariant-loop-i : goal.invariant-loop-i
invariant-loop-i l =
    ◌≡◌ {A = Scope} (record l.fn.scope { variables = parameter_variables l.parameters l.fn.scope.variables })
    (record l.scope { variables = parameter_variables (drop l.i l.parameters) l.scope.variables })
    × KeepsOuter l.fn.scope l.scope
