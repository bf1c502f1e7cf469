use Rattle.std.proofs.Common.{◌≡◌, take, false}
use Rattle.clmodel.specs.Typing.Sizes.{row_returns}
use Rattle.cltypes.specs.Limits.{statements}
use Rattle.cltypes.proofs.returns.+returns.Given as goal

abbrev pub invariant-always_returns-loop-statement : goal.invariant-always_returns-loop-statement
invariant-always_returns-loop-statement l = row_returns (statements (take l.statement-index l.body)) ≡ false
