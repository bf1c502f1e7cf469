use Rattle.std.proofs.Common.{◌∙◌}
use Rattle.register_values.proofs.RegisterValues.{kept_in, kept_value}
use Rattle.register_values.proofs.register_value.integral.Goals as goal

pub of_bits-requires : goal.of_bits-requires
of_bits-requires c = kept_in c.args.value.kind c.kind.result c.args.value.number c.bits_in.result c.kind.ensures c.bits_in.ensures.value c.number-number.ensures.in_range

pub returns : goal.returns
returns c =
    c.of_bits.ensures ∙ kept_value c.args.value.kind c.kind.result c.args.value.number c.bits_in.result c.kind.ensures c.bits_in.ensures.value c.number-number.ensures.in_range
