use Rattle.clsyntax_lex.proofs.PrintedLemmas.{tokens_read_back}
use Rattle.clsyntax_lex.proofs.laws.printed_tokens_are_read_back.Goals as goal

pub returns : goal.returns
returns c = tokens_read_back
