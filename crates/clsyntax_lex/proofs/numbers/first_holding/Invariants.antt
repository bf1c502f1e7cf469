use Rattle.std.proofs.Common.{◌≡◌, drop}
use Rattle.clsyntax_lex.specs.Numbers as numbers
use Rattle.clsyntax_lex.proofs.numbers.first_holding.Given as goal

abbrev pub invariant-loop-kind : goal.invariant-loop-kind
invariant-loop-kind l = numbers.first_holding l.base l.suffix (drop l.kind-index l.kinds) l.number ≡ numbers.first_holding l.base l.suffix l.kinds l.number
