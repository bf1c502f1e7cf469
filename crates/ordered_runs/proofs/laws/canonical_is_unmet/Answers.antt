use Rattle.ordered_runs.proofs.Runs.{canonical_is_unmet}
use Rattle.ordered_runs.proofs.laws.canonical_is_unmet.Goals as goal

pub returns : goal.returns
returns c = canonical_is_unmet
