use Rattle.std.proofs.Common.{◌≡◌, drop}
use Rattle.clsyntax_lex.specs.Words.{entries}
use Rattle.clsyntax_lex.specs.Pieces.{word_in}
use Rattle.clsyntax_lex.proofs.words.entry_of.Given as goal

abbrev pub invariant-loop-entry : goal.invariant-loop-entry
invariant-loop-entry l = word_in (entries (drop l.entry-index l.table)) l.text ≡ word_in (entries l.table) l.text
