use Rattle.joining.proofs.Lowest as lowest
use Rattle.joining.proofs.lower_byte_first.Goals as goal

pub returns : goal.returns
returns c = lowest.lower_byte_first
