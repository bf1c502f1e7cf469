use Rattle.joining.proofs.JoinedBytes as joined
use Rattle.joining.proofs.bytes_are_joined.Goals as goal

pub returns : goal.returns
returns c = joined.bytes_are_joined
