use Rattle.std.proofs.Common.{◌≡◌, ◌+◌, drop}
use Rattle.std.specs.Option.{option_map}
use Rattle.clsyntax_lex.specs.Pieces as pieces
use Rattle.clsyntax_lex.proofs.pieces.closed_after.Given as goal

abbrev pub invariant-loop-at : goal.invariant-loop-at
invariant-loop-at l = pieces.closed_after l.bytes ≡ option_map (λ n. l.at + n) (pieces.closed_after (drop l.at l.bytes))
