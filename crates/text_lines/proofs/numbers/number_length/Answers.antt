use Rattle.std.specs.Char.{is_ascii_digit}
use Rattle.text_lines.proofs.FieldLemmas.{front_of_position}
use Rattle.text_lines.proofs.numbers.number_length.Goals as goal

pub returns-clause-value : goal.returns-clause-value
returns-clause-value c = rw (c.unwrap_or.ensures, c.number_end.ensures.value) (front_of_position is_ascii_digit c.args.bytes.now)
