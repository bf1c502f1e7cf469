use Rattle.std.specs.Ordering.{int_eq}
use Rattle.std.proofs.Common.{lit<, pos, negsuc, sym, ap, ◌∙◌, ◌-ℤ◌}
use Rattle.clnum.specs.Operations.{unary_value, truth}
use Rattle.clnum.proofs.Ranges.{passed}
use Rattle.clnum.proofs.Formulas.{promoting_is, back-negate, back-complement, eq_test, IsWithin-fits}
use Rattle.clnum.proofs.operations.unary.Goals as goal

pub returns-in-Plus : goal.returns-in-Plus
unfolding unary_value
returns-in-Plus c =
    promoting_is c.args.value c.kind.result c.promoted-kind.result _ c.args.value.number c.wrapped.result c.kind.ensures c.promoted-kind.ensures
    (passed c.number-number.result (IsWithin-fits _ c.number-number.ensures.within) ∙ c.number-number.ensures.value) c.wrapped.ensures
    ∙ ap (λ o. unary_value o c.args.value) (sym c.in-Plus.is)

pub returns-in-Negate : goal.returns-in-Negate
unfolding unary_value
returns-in-Negate c =
    promoting_is c.args.value c.kind.result c.promoted-kind.result _ (pos 0 -ℤ c.args.value.number) c.wrapped-in-Negate.result c.kind.ensures c.promoted-kind.ensures
    (back-negate c.number-number.result c.number-number.ensures.within ∙ ap (λ n. pos 0 -ℤ n) c.number-number.ensures.value) c.wrapped-in-Negate.ensures
    ∙ ap (λ o. unary_value o c.args.value) (sym c.in-Negate.is)

pub returns-in-Complement : goal.returns-in-Complement
unfolding unary_value
returns-in-Complement c =
    promoting_is c.args.value c.kind.result c.promoted-kind.result _ (negsuc 0 -ℤ c.args.value.number) c.wrapped-in-Complement.result c.kind.ensures c.promoted-kind.ensures
    (back-complement c.number-number.result c.number-number.ensures.within ∙ ap (λ n. negsuc 0 -ℤ n) c.number-number.ensures.value) c.wrapped-in-Complement.ensures
    ∙ ap (λ o. unary_value o c.args.value) (sym c.in-Complement.is)

pub returns-in-Not : goal.returns-in-Not
unfolding unary_value
returns-in-Not c =
    c.truth.ensures
    ∙ ap truth (eq_test c.number-number.result (pos 0) (IsWithin-fits _ c.number-number.ensures.within) (record { sfits = lit< tt }) ∙ ap (λ n. int_eq n (pos 0)) c.number-number.ensures.value)
    ∙ ap (λ o. unary_value o c.args.value) (sym c.in-Not.is)
