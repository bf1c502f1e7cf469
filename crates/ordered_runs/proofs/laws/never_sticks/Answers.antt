use Rattle.ordered_runs.proofs.Runs.{never_sticks}
use Rattle.ordered_runs.proofs.laws.never_sticks.Goals as goal

pub returns : goal.returns
returns c = never_sticks
