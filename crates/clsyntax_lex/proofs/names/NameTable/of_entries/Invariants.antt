use Rattle.std.proofs.Common.{◌≡◌, take, map, []}
use Rattle.std.specs.Prelude.{fold}
use Rattle.clsyntax_lex.specs.Lexing.{with_text}
use Rattle.clsyntax_lex.proofs.names.NameTable.of_entries.Given as goal

abbrev pub invariant-loop-entry : goal.invariant-loop-entry
invariant-loop-entry l = map (λ text. text.now) l.texts.keys ≡ fold (λ names entry. with_text names entry.0.now) [] (take l.entry-index l.given)
