use Rattle.std.proofs.Common.{◌≡◌, take}
use Rattle.clmodel.specs.Tree.{terms}
use Rattle.clmodel.specs.Typing.Sizes.{terms_size}
use Rattle.cltypes.specs.Limits.{capped}
use Rattle.cltypes.proofs.expression_sizes.+expressions.Given as goal

abbrev pub invariant-arguments_size-loop-argument : goal.invariant-arguments_size-loop-argument
invariant-arguments_size-loop-argument l = l.size ≡ capped (terms_size l.table (terms (take l.argument-index l.arguments)))
