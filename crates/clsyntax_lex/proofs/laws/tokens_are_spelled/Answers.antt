use Rattle.clsyntax_lex.proofs.ReadingLemmas.{lexing-IsReading}
use Rattle.clsyntax_lex.proofs.laws.tokens_are_spelled.Goals as goal

pub returns : goal.returns
returns c = lexing-IsReading
