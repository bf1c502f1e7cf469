use Rattle.joining.proofs.Runs as runs
use Rattle.joining.proofs.part_exists.Goals as goal

pub returns : goal.returns
returns c = runs.part_exists
