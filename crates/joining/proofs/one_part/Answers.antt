use Rattle.joining.proofs.Parts as parts
use Rattle.joining.proofs.one_part.Goals as goal

pub returns : goal.returns
returns c = parts.one_part
