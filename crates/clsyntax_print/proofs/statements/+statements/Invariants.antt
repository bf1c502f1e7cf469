use Rattle.std.proofs.Common.{List, drop}
use Rattle.clsyntax_lex.specs.declared.token.TokenKind.{TokenKind}
use Rattle.clsyntax_print.specs.Writing.{Passed}
use Rattle.clsyntax_print.proofs.Lists.{print_each}
use Rattle.clsyntax_print.proofs.statements.+statements.Given as goal

-- what stands before the rest was written
abbrev pub invariant-write_statements-loop-statement : goal.invariant-write_statements-loop-statement
invariant-write_statements-loop-statement g l =
    (rest : List TokenKind) → Passed l.names (g.W.Write.sink l.initial.writer) (g.W.Write.sink l.writer) (print_each l.statements rest) (print_each (drop l.statement-index l.statements) rest)
