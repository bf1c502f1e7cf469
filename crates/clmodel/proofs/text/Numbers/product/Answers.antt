use Rattle.std.proofs.Common.{◌∙◌, ap, get_or, ◌*◌, ◌-◌, ◌^◌, min}
use Rattle.clmodel.proofs.Products.{one_more}
use Rattle.clmodel.proofs.text.Numbers.product.Goals as goal

pub loop-number-preserved : goal.loop-number-preserved
loop-number-preserved c =
    let ns = c.as_slice-numbers.result.now in
    let i = c.loop-number.number-index in
    c.saturating_mul-product.ensures ∙ ap (λ p. min (p * get_or ns i 0) (2 ^ 64 - 1)) c.loop-number.invariant ∙ one_more ns i c.loop-number-test.true
