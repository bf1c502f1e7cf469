use Rattle.std.proofs.Common.{arith, ap, ◌∙◌, ◌+◌}
use Rattle.std.proofs.lemmas.List.{take_rest}
use Rattle.simfile.specs.Fields.{is_hex_digit}
use Rattle.text_lines.specs.Fronts.{front_length}
use Rattle.simfile.proofs.FieldLemmas.{front_past}
use Rattle.simfile.proofs.fields.hex_length.Goals as goal

pub returns-clause-value : goal.returns-clause-value
returns-clause-value c =
    ap (λ n. c.hex_blocks-whole.result + n) (c.digits_in_front.ensures.value ∙ ap (front_length is_hex_digit) (take_rest c.args.bytes.now c.hex_blocks-whole.result)) ∙ front_past is_hex_digit c.hex_blocks-whole.result c.args.bytes.now c.hex_blocks-whole.ensures.within c.hex_blocks-whole.ensures.digits
