use Rattle.std.proofs.Common.{◌≡◌, take}
use Rattle.clmodel.specs.Typing.Sizes.{row_size}
use Rattle.cltypes.specs.Limits.{capped, statements}
use Rattle.cltypes.proofs.statement_sizes.+statements.Given as goal

abbrev pub invariant-row_size-loop-statement : goal.invariant-row_size-loop-statement
invariant-row_size-loop-statement l = l.size ≡ capped (row_size l.table (statements (take l.statement-index l.body)))
