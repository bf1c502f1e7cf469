use Rattle.joining_runs.proofs.Runs as runs
use Rattle.joining_runs.proofs.runs_are_joined.Goals as goal

pub returns : goal.returns
returns c = runs.runs_are_joined
