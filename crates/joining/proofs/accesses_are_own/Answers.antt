use Rattle.joining.proofs.Steps as steps
use Rattle.joining.proofs.accesses_are_own.Goals as goal

pub returns : goal.returns
returns c = steps.accesses_are_own
