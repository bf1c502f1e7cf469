use Rattle.cltypes.proofs.Programs.{exactly_typed}
use Rattle.cltypes.specs.Answers.{IsTypedExactly}
use Rattle.cltypes.proofs.laws.typed_exactly.Goals as goal

pub returns : goal.returns
unfolding IsTypedExactly
returns c = exactly_typed
