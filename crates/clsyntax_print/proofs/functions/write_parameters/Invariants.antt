use Rattle.std.proofs.Common.{List, drop}
use Rattle.clsyntax_lex.specs.declared.token.TokenKind.{TokenKind}
use Rattle.clsyntax_print.specs.Writing.{Passed}
use Rattle.clsyntax_print.proofs.Lists.{parameters_behind}
use Rattle.clsyntax_print.proofs.functions.write_parameters.Given as goal

-- what stands before the rest was written
abbrev pub invariant-loop-parameter : goal.invariant-loop-parameter
invariant-loop-parameter g l = (rest : List TokenKind) → Passed l.names (g.W.Write.sink l.initial.writer) (g.W.Write.sink l.writer) (parameters_behind l.others rest) (parameters_behind (drop l.parameter-index l.others) rest)
