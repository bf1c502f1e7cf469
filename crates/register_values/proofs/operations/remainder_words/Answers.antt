use Rattle.std.proofs.Common.{◌+◌, ◌-◌, ◌*◌, ◌%◌, ◌^◌, ◌-ℤ◌, ◌*ℤ◌, sym, ap, ◌∙◌}
use Rattle.std.specs.Prelude.{int_div}
use Rattle.clnum.specs.Integer.{wrap}
use Rattle.clnum.specs.Operations.{remainder_of}
use Rattle.register_values.specs.Words.{word}
use Rattle.clnum.proofs.Ranges.{IsIn-wrap}
use Rattle.register_values.proofs.WordLemmas.{brought, differences, products, whole, wrap_word}
use Rattle.register_values.proofs.QuotientLemmas.{division_fault, division_value}
use Rattle.register_values.proofs.operations.remainder_words.Goals as goal

pub returns-in-Ok : goal.returns-in-Ok
returns-in-Ok c x y p q =
    let kind = c.args.kind in
    let left = brought kind x c.args.left c.wrapped_word-left.result p c.wrapped_word-left.ensures in
    let right = brought kind y c.args.right c.wrapped_word-right.result q c.wrapped_word-right.ensures in
    division_value remainder_of kind (wrap kind x) (wrap kind y) c.in-Ok.quotient c.wrapped_word.result
    (sym c.in-Ok.is ∙ c.quotient_word.ensures (wrap kind x) (wrap kind y) (IsIn-wrap kind x) (IsIn-wrap kind y) left right)
    (λ e h. c.wrapped_word.ensures ∙ ap word (wrap_word kind (remainder_of (wrap kind x) (wrap kind y)) _
    (whole (λ x y. x -ℤ y) (λ a b. (a + (2 ^ 64 - b)) % 2 ^ 64) differences (wrap kind x) (int_div (wrap kind x) (wrap kind y) *ℤ wrap kind y) c.wrapped_word-left.result
    ((c.in-Ok.quotient * c.wrapped_word-right.result) % 2 ^ 64) left
    (whole (λ x y. x *ℤ y) (λ a b. (a * b) % 2 ^ 64) products (int_div (wrap kind x) (wrap kind y)) (wrap kind y) c.in-Ok.quotient c.wrapped_word-right.result (sym e) right))))

pub returns-in-Err : goal.returns-in-Err
returns-in-Err c x y p q =
    let kind = c.args.kind in
    let left = brought kind x c.args.left c.wrapped_word-left.result p c.wrapped_word-left.ensures in
    let right = brought kind y c.args.right c.wrapped_word-right.result q c.wrapped_word-right.ensures in
    division_fault remainder_of kind (wrap kind x) (wrap kind y) c.in-Err.fault
    (sym c.in-Err.is ∙ c.quotient_word.ensures (wrap kind x) (wrap kind y) (IsIn-wrap kind x) (IsIn-wrap kind y) left right)
