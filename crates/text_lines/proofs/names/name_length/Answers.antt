use Rattle.text_lines.specs.Texts.{is_later}
use Rattle.text_lines.proofs.FieldLemmas.{front_of_position}
use Rattle.text_lines.proofs.names.name_length.Goals as goal

pub returns-clause-value : goal.returns-clause-value
returns-clause-value c = rw (c.unwrap_or.ensures, c.name_end.ensures.value) (front_of_position is_later c.args.bytes.now)
