use Rattle.joining.proofs.Kept as kept
use Rattle.joining.proofs.kept_both.Goals as goal

pub returns : goal.returns
returns c = kept.kept_both
