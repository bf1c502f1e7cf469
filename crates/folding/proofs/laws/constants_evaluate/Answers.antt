use Rattle.folding.proofs.Evaluation.{value_is, kind_is}
use Rattle.folding.proofs.laws.constants_evaluate.Goals as goal

pub returns-clause-value : goal.returns-clause-value
returns-clause-value c here e variables after v is = value_is here variables e v is after

pub returns-clause-kind : goal.returns-clause-kind
returns-clause-kind c e variables v is = kind_is variables e v is
