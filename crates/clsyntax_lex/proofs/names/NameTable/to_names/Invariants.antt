use Rattle.std.proofs.Common.{◌≡◌, take, map}
use Rattle.clsyntax_lex.proofs.names.NameTable.to_names.Given as goal

abbrev pub invariant-loop-text : goal.invariant-loop-text
invariant-loop-text l = l.names.items ≡ map (λ text. text.now) (take l.text-index l.texts)
