use Rattle.ordered_runs.proofs.Runs.{is_interleaving}
use Rattle.ordered_runs.proofs.laws.is_interleaving.Goals as goal

pub returns : goal.returns
returns c = is_interleaving
