use Rattle.std.proofs.Common.{List, drop}
use Rattle.clsyntax_lex.specs.declared.token.TokenKind.{TokenKind}
use Rattle.clsyntax_print.specs.Writing.{Passed}
use Rattle.clsyntax_print.proofs.Lists.{functions_each}
use Rattle.clsyntax_print.proofs.functions.write_functions.Given as goal

-- what stands before the rest was written
abbrev pub invariant-loop-function : goal.invariant-loop-function
invariant-loop-function g l = (rest : List TokenKind) → Passed l.names (g.W.Write.sink l.initial.writer) (g.W.Write.sink l.writer) (functions_each l.functions rest) (functions_each (drop l.function-index l.functions) rest)
