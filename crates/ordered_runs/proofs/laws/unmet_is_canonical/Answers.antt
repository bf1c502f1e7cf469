use Rattle.ordered_runs.proofs.Runs.{unmet_is_canonical}
use Rattle.ordered_runs.proofs.laws.unmet_is_canonical.Goals as goal

pub returns : goal.returns
returns c = unmet_is_canonical
