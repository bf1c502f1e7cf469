use Rattle.ordered_runs.proofs.Runs.{one_run}
use Rattle.ordered_runs.proofs.laws.one_run.Goals as goal

pub returns : goal.returns
returns c = one_run
