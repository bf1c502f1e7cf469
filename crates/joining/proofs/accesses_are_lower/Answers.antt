use Rattle.joining.proofs.Steps as steps
use Rattle.joining.proofs.accesses_are_lower.Goals as goal

pub returns : goal.returns
returns c = steps.accesses_are_lower
