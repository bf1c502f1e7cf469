use Rattle.std.proofs.Common.{◌≡◌, map, take}
use Rattle.cltypes.proofs.functions.signature.Given as goal

abbrev pub invariant-loop-parameter : goal.invariant-loop-parameter
invariant-loop-parameter l = l.parameters.items ≡ map (λ p. p.kind) (take l.parameter-index l.function.parameters.items)
