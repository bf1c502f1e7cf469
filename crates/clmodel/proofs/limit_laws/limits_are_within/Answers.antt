use Rattle.clmodel.proofs.Limits.{all_within}
use Rattle.clmodel.proofs.limit_laws.limits_are_within.Goals as goal

pub returns : goal.returns
returns c = all_within
