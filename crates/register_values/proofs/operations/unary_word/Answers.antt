use Rattle.std.proofs.Common.{ap, refl, sym, ◌∙◌, ◌-ℤ◌, pos, negsuc, ◌^◌, ◌-◌}
use Rattle.clnum.specs.Integer.{wrap}
use Rattle.clnum.specs.Conversions.{promoted}
use Rattle.clnum.specs.Operations.{unary_value, truth}
use Rattle.register_values.specs.Words.{word}
use Rattle.register_values.proofs.WordLemmas.{wrap_word, whole, differences, zero_in}
use Rattle.std.proofs.Common.{subst}
use Rattle.clnum.specs.Integer.{IsIn}
use Rattle.register_values.proofs.operations.unary_word.Goals as goal

pub returns-in-Plus : goal.returns-in-Plus
unfolding unary_value
returns-in-Plus c a h =
    c.wrapped_word.ensures ∙ ap word (wrap_word c.promoted.result a.number c.args.bits h.same)
    ∙ ap (λ t. word (wrap t a.number)) (c.promoted.ensures ∙ ap promoted h.typed) ∙ ap (λ o. word (unary_value o a).number) (sym c.in-Plus.is)

pub returns-in-Negate : goal.returns-in-Negate
unfolding unary_value
returns-in-Negate c a h =
    c.wrapped_word-in-Negate.ensures ∙ ap word (wrap_word c.promoted-in-Negate.result (pos 0 -ℤ a.number) _ (whole _ _ differences (pos 0) a.number 0 c.args.bits refl h.same))
    ∙ ap (λ t. word (wrap t (pos 0 -ℤ a.number))) (c.promoted-in-Negate.ensures ∙ ap promoted h.typed) ∙ ap (λ o. word (unary_value o a).number) (sym c.in-Negate.is)

pub returns-in-Complement : goal.returns-in-Complement
unfolding unary_value
returns-in-Complement c a h =
    c.wrapped_word-in-Complement.ensures ∙ ap word (wrap_word c.promoted-in-Complement.result (negsuc 0 -ℤ a.number) _ (whole _ _ differences (negsuc 0) a.number (2 ^ 64 - 1) c.args.bits refl h.same))
    ∙ ap (λ t. word (wrap t (negsuc 0 -ℤ a.number))) (c.promoted-in-Complement.ensures ∙ ap promoted h.typed) ∙ ap (λ o. word (unary_value o a).number) (sym c.in-Complement.is)

pub returns-in-Not : goal.returns-in-Not
unfolding unary_value
returns-in-Not c a h =
    let i : IsIn c.args.kind a.number = subst (λ t. IsIn t a.number) (sym h.typed) h.in_range in
    c.truth_word.ensures ∙ ap (λ t. word (truth t).number) (c.is_same_word.ensures a.number (pos 0) i (zero_in c.args.kind) h.same refl) ∙ ap (λ o. word (unary_value o a).number) (sym c.in-Not.is)
