use Rattle.std.proofs.Common.{Some, refl, ap, ◌∙◌}
use Rattle.clnum.specs.Integer.{Integer, converted}
use Rattle.clnum.proofs.Ranges.{IsIn-wrap}
use Rattle.clmodel.specs.declared.operand.Operand.TheVariants.{Integral}
use Rattle.register_values.specs.RegisterValues.{integer, number_of}
use Rattle.register_values.proofs.Outcomes.{word_number}
use Rattle.register_values.proofs.RegisterValues.{integer_is, integer_in}
use Rattle.register_values.proofs.kept_values.converted_bits.Goals as goal

pub of_bits-requires : goal.of_bits-requires
unfolding converted
of_bits-requires c =
    integer_in (converted (integer c.args.from c.args.bits) c.args.kind) c.args.kind c.converted_word.result refl
    (c.converted_word.ensures (integer c.args.from c.args.bits) (word_number c.args.from c.args.bits c.ranges.bits.fits)) (IsIn-wrap c.args.kind (number_of c.args.from c.args.bits))

pub returns : goal.returns
unfolding converted
returns c =
    c.of_bits.ensures
    ∙ ap (λ (v : Integer). Some (Integral v)) (integer_is (converted (integer c.args.from c.args.bits) c.args.kind) c.args.kind c.converted_word.result refl
    (c.converted_word.ensures (integer c.args.from c.args.bits) (word_number c.args.from c.args.bits c.ranges.bits.fits)) (IsIn-wrap c.args.kind (number_of c.args.from c.args.bits)))
