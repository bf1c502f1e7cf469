use Rattle.clnum.specs.Operations.{unary_kind}
use Rattle.register_values.proofs.operations.promoted.Goals as goal

pub returns : goal.returns
unfolding unary_kind
returns c = c.unary_kind.ensures
