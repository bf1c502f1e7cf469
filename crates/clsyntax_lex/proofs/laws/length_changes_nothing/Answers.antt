use Rattle.clsyntax_lex.proofs.LexLemmas.{without_limit}
use Rattle.clsyntax_lex.proofs.laws.length_changes_nothing.Goals as goal

pub returns : goal.returns
returns c = without_limit
