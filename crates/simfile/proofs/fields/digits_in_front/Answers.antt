use Rattle.simfile.specs.Fields.{is_hex_digit}
use Rattle.text_lines.proofs.FieldLemmas.{front_of_position}
use Rattle.simfile.proofs.fields.digits_in_front.Goals as goal

pub returns-clause-value : goal.returns-clause-value
returns-clause-value c = rw (c.unwrap_or.ensures, c.hex_end.ensures.value) (front_of_position is_hex_digit c.args.bytes.now)
