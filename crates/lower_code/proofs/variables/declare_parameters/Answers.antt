use Rattle.std.proofs.Common.{◌+◌, drop, [], ◌∷◌, refl, ap, sym, ◌∙◌}
use Rattle.lower_expr.specs.Scope.{Scope}
use Rattle.lower_code.specs.Variables.{parameter_variables}
use Rattle.lower_code.proofs.Growth.{same_scope, inner_scope}
use Rattle.lower_code.proofs.Parameters.{drop_one, drop_all}
use Rattle.lower_code.proofs.variables.declare_parameters.Goals as goal

pub loop-i-init : goal.loop-i-init
loop-i-init c = (refl, same_scope _ _ refl)

pub loop-i-preserved : goal.loop-i-preserved
loop-i-preserved c = (
  c.loop-i.invariant.0
      ∙ ap (λ qs. record c.loop-i.scope { variables = parameter_variables qs c.loop-i.scope.variables }) (drop_one c.args.parameters.now c.loop-i.i _ c.loop-i-test.true)
      ∙ ap (λ (s : Scope). record s { variables = parameter_variables (drop (c.loop-i.i + 1) c.args.parameters.now) s.variables }) (sym c.in_ok-declare.ensures.declared),
  inner_scope _ _ _ c.loop-i.invariant.1 (record { added = _ ∷ []; is = c.in_ok-declare.ensures.declared }),
)

pub returns-clause-declared : goal.returns-clause-declared
returns-clause-declared c =
    sym (c.loop-i.invariant.0
    ∙ ap (λ qs. record c.loop-i.scope { variables = parameter_variables qs c.loop-i.scope.variables }) (drop_all c.args.parameters.now c.loop-i.i c.loop-i-test.false))
