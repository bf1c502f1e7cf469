use Rattle.std.proofs.Common.{Some, sym, ap, ◌∙◌}
use Rattle.clnum.specs.Integer.{Integer}
use Rattle.clnum.specs.Operations.{unary_value}
use Rattle.clmodel.specs.declared.operand.Operand.TheVariants.{Integral}
use Rattle.register_values.specs.RegisterValues.{integer}
use Rattle.register_values.proofs.Outcomes.{is_word, outcome_of_one}
use Rattle.register_values.proofs.RegisterValues.{integer_is, integer_in}
use Rattle.register_values.proofs.kept_values.unary_bits.Goals as goal

pub of_bits-requires : goal.of_bits-requires
of_bits-requires c =
    let v = integer c.args.kind c.args.bits in
    let o = outcome_of_one c.args.operator v in
    integer_in (unary_value c.args.operator v) c.unary_kind.result c.unary_word-result.result (c.unary_kind.ensures ∙ sym o.typed)
    (c.unary_word-result.ensures v (is_word c.args.kind c.args.bits c.ranges.bits.fits c.requires)) o.in_range

pub returns : goal.returns
returns c =
    let v = integer c.args.kind c.args.bits in
    let o = outcome_of_one c.args.operator v in
    c.of_bits.ensures
    ∙ ap (λ (v : Integer). Some (Integral v)) (integer_is (unary_value c.args.operator v) c.unary_kind.result c.unary_word-result.result (c.unary_kind.ensures ∙ sym o.typed)
    (c.unary_word-result.ensures v (is_word c.args.kind c.args.bits c.ranges.bits.fits c.requires)) o.in_range)
