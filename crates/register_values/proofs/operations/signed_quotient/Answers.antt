use Rattle.std.proofs.Common.{◌≡◌, ℤ, negsuc, sym, ap, ap₂, subst, ◌∙◌}
use Rattle.std.specs.Prelude.{FitsSigned, int_div}
use Rattle.std.specs.Int.{w64, cast_signed, cast_unsigned}
use Rattle.std.proofs.lemmas.Int.{quot_is}
use Rattle.register_values.specs.Words.{word, fitting}
use Rattle.clnum.proofs.Formulas.{div_fits}
use Rattle.register_values.proofs.WordLemmas.{fits_word, signed_fits, signed_back}
use Rattle.register_values.proofs.QuotientLemmas.{not_minus_one}
use Rattle.register_values.proofs.operations.signed_quotient.Goals as goal

pub returns-then-right-eq18446744073709551615 : goal.returns-then-right-eq18446744073709551615
returns-then-right-eq18446744073709551615 c x y h k p q =
    let e : y ≡ negsuc 0 = sym (signed_back c.args.kind y c.args.right k c.requires.kind q) ∙ ap (cast_signed w64) c.if-right-eq18446744073709551615.true in
    subst (λ (z : ℤ). c.negated_word.result ≡ fitting c.args.kind x z) (sym e) (c.negated_word.ensures x h p)

pub returns : goal.returns
returns c x y h k p q =
    let f : FitsSigned w64 x = signed_fits c.args.kind x h c.requires.kind in
    let g : FitsSigned w64 y = signed_fits c.args.kind y k c.requires.kind in
    let fits : FitsSigned w64 (int_div x y) = div_fits x y f (not_minus_one y c.args.right q c.if-right-eq18446744073709551615.false) in
    let left : c.cast_signed.result ≡ x = c.cast_signed.ensures ∙ signed_back c.args.kind x c.args.left h c.requires.kind p in
    let right : c.cast_signed-2.result ≡ y = c.cast_signed-2.ensures ∙ signed_back c.args.kind y c.args.right k c.requires.kind q in
    let same : word (int_div x y) ≡ c.cast_unsigned.result =
    sym (fits_word (int_div x y) fits) ∙ ap (cast_unsigned w64) (sym (quot_is w64 x y f g fits))
    ∙ ap₂ (λ a d. cast_unsigned w64 (cast_signed w64 (cast_unsigned w64 (int_div (cast_signed w64 (cast_unsigned w64 a)) (cast_signed w64 (cast_unsigned w64 d)))))) (sym left) (sym right)
    ∙ sym c.cast_unsigned.ensures in
    c.fitting_quotient.ensures x y fits same
