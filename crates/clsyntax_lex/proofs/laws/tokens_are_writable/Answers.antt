use Rattle.clsyntax_lex.proofs.PrintedLemmas.{tokens_writable}
use Rattle.clsyntax_lex.proofs.laws.tokens_are_writable.Goals as goal

pub returns : goal.returns
returns c = tokens_writable
