use Rattle.std.proofs.Common.{not, sym, ap, ◌∙◌}
use Rattle.register_values.specs.RegisterValues.{content, integer}
use Rattle.register_values.proofs.KeptValues.{tested_is, zero_bits}
use Rattle.register_values.proofs.kept_values.tested_value.Goals as goal

pub returns-in-Integral : goal.returns-in-Integral
returns-in-Integral c v after e =
    let i = c.value.inside in
    tested_is (integer i.kind i.bits) v after _
    (sym (ap (λ t. content i.bits t i.kind i.number) c.in-Integral.is) ∙ c.value.view_is ∙ e)
    (ap not (zero_bits i.kind i.bits c.value.invariant.below))
