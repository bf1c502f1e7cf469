use Rattle.std.proofs.Common.{List, drop, ◌++◌}
use Rattle.clsyntax_lex.specs.declared.token.TokenKind.{TokenKind}
use Rattle.clsyntax_print.specs.Writing.{Passed}
use Rattle.clsyntax_print.proofs.tokens.write_tokens.Given as goal

-- what stands before the rest was written
abbrev pub invariant-loop-kind : goal.invariant-loop-kind
invariant-loop-kind g l = (rest : List TokenKind) → Passed l.names (g.W.Write.sink l.initial.writer) (g.W.Write.sink l.writer) (l.kinds ++ rest) (drop l.kind-index l.kinds ++ rest)
