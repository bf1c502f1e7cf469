use Rattle.std.proofs.Common.{◌-◌, length}
use Rattle.clsyntax_lex.proofs.LexLemmas.{ReadsTo}
use Rattle.clsyntax_lex.proofs.lexer.lex.Given as goal

abbrev pub invariant-loop-at : goal.invariant-loop-at
invariant-loop-at l = ReadsTo l.fn.limits l.source l.at l.progress.tokens.items l.progress.names

abbrev pub decreases-loop-at : goal.decreases-loop-at
decreases-loop-at l = length l.source - l.at
