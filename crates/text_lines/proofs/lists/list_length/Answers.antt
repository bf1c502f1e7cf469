use Rattle.text_lines.specs.Texts.{is_listed}
use Rattle.text_lines.proofs.FieldLemmas.{front_of_position}
use Rattle.text_lines.proofs.lists.list_length.Goals as goal

pub returns-clause-value : goal.returns-clause-value
returns-clause-value c = rw (c.unwrap_or.ensures, c.list_end.ensures.value) (front_of_position is_listed c.args.bytes.now)
