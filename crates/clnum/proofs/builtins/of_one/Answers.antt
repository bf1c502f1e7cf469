use Rattle.std.proofs.Common.{ap, ap₂, ◌∙◌, refl, pos}
use Rattle.std.specs.Prelude.{count_ones, unsigned_abs}
use Rattle.clnum.specs.Conversions.{unsigned_of}
use Rattle.clnum.specs.Operations.{wrapped}
use Rattle.clnum.specs.declared.operators.Builtin.TheVariants.{Abs, Clz, Popcount}
use Rattle.clnum.proofs.Ranges.{passed}
use Rattle.clnum.proofs.Formulas.{IsWithin-fits}
use Rattle.clnum.proofs.Functions.{some_one}
use Rattle.clnum.proofs.builtins.of_one.Goals as goal

pub returns-in-Abs : goal.returns-in-Abs
returns-in-Abs c =
    some_one c.args.function Abs c.args.a c.wrapped.result _ c.in-Abs.is
    (c.wrapped.ensures
    ∙ ap₂ wrapped (c.unsigned.ensures ∙ ap unsigned_of c.kind-kind.ensures)
    (passed c.abs.result (record { sfits = c.abs.type_inv })
    ∙ c.abs.ensures.value
    ∙ ap (λ z. pos (unsigned_abs z)) (passed c.number.result (IsWithin-fits _ c.number.ensures.within) ∙ c.number.ensures.value)
    )
    )
    refl

pub returns-in-Clz : goal.returns-in-Clz
returns-in-Clz c =
    some_one c.args.function Clz c.args.a c.from_bits.result _ c.in-Clz.is
    (c.from_bits.ensures ∙ ap₂ (λ k n. wrapped k (pos n)) c.kind-kind.ensures (c.from.ensures ∙ c.leading_zeros.ensures))
    refl

pub returns-in-Popcount : goal.returns-in-Popcount
returns-in-Popcount c =
    some_one c.args.function Popcount c.args.a c.from_bits-in-Popcount.result _ c.in-Popcount.is
    (c.from_bits-in-Popcount.ensures ∙ ap₂ (λ k n. wrapped k (pos n)) c.kind-kind.ensures (c.from-in-Popcount.ensures ∙ ap count_ones c.to_bits.ensures.value))
    refl
