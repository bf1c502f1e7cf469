use Rattle.std.proofs.Common.{Some, pos, refl, ap, ◌∙◌}
use Rattle.clnum.specs.Integer.{Integer}
use Rattle.clnum.specs.Operations.{wrapped}
use Rattle.clnum.proofs.Ranges.{IsIn-wrap}
use Rattle.clmodel.specs.declared.operand.Operand.TheVariants.{Integral}
use Rattle.register_values.proofs.RegisterValues.{integer_is, integer_in}
use Rattle.register_values.proofs.kept_values.read_bits.Goals as goal

pub of_bits-requires : goal.of_bits-requires
of_bits-requires c = integer_in (wrapped c.args.kind (pos c.args.bits)) c.args.kind c.wrapped_word.result refl c.wrapped_word.ensures (IsIn-wrap c.args.kind (pos c.args.bits))

pub returns : goal.returns
returns c =
    c.of_bits.ensures
    ∙ ap (λ (v : Integer). Some (Integral v)) (integer_is (wrapped c.args.kind (pos c.args.bits)) c.args.kind c.wrapped_word.result refl c.wrapped_word.ensures (IsIn-wrap c.args.kind (pos c.args.bits)))
