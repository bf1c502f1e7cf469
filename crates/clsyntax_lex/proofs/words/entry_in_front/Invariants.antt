use Rattle.std.proofs.Common.{◌≡◌, drop}
use Rattle.clsyntax_lex.specs.Words.{entries}
use Rattle.clsyntax_lex.specs.Pieces.{symbol_in}
use Rattle.clsyntax_lex.proofs.words.entry_in_front.Given as goal

abbrev pub invariant-loop-entry : goal.invariant-loop-entry
invariant-loop-entry l = symbol_in (entries (drop l.entry-index l.table)) l.bytes ≡ symbol_in (entries l.table) l.bytes
