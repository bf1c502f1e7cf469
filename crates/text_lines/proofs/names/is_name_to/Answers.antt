use Rattle.std.proofs.Common.{arith}
use Rattle.std.proofs.lemmas.Bool.Decides.{nat_tests}
use Rattle.text_lines.proofs.names.is_name_to.Goals as goal

pub returns-then-later-most : goal.returns-then-later-most
returns-then-later-most c = rw (c.in-Some.ensures.cases.0, c.are_later.ensures) (grind (arith, nat_tests))
