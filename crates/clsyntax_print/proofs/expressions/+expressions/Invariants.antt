use Rattle.std.proofs.Common.{List, drop}
use Rattle.clsyntax_lex.specs.declared.token.TokenKind.{TokenKind}
use Rattle.clsyntax_print.specs.Writing.{Passed}
use Rattle.clsyntax_print.proofs.Lists.{behind_commas}
use Rattle.clsyntax_print.proofs.expressions.+expressions.Given as goal

-- what stands before the rest was written
abbrev pub invariant-write_arguments-loop-argument : goal.invariant-write_arguments-loop-argument
invariant-write_arguments-loop-argument g l =
    (rest : List TokenKind) → Passed l.names (g.W.Write.sink l.initial.writer) (g.W.Write.sink l.writer) (behind_commas l.others rest) (behind_commas (drop l.argument-index l.others) rest)
