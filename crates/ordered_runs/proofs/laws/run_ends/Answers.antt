use Rattle.ordered_runs.proofs.Runs.{run_ends}
use Rattle.ordered_runs.proofs.laws.run_ends.Goals as goal

pub returns : goal.returns
returns c = run_ends
