use Rattle.fault_lines.specs.Reading.{is_inner}
use Rattle.text_lines.proofs.FieldLemmas.{front_of_position}
use Rattle.fault_lines.proofs.fields.line_length.Goals as goal

pub returns-clause-value : goal.returns-clause-value
returns-clause-value c = rw (c.unwrap_or.ensures, c.line_end.ensures.value) (front_of_position is_inner c.args.bytes.now)
