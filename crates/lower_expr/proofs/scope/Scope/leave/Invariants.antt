use Rattle.std.proofs.Common.{◌≡◌, drop}
use Rattle.lower_expr.proofs.scope.Scope.leave.Given as goal

abbrev pub invariant-loop : goal.invariant-loop
invariant-loop l = l.self ≡ record l.fn.self { variables = drop l.counter l.fn.self.variables }
