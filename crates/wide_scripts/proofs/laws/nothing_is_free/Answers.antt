use Rattle.wide_scripts.proofs.AlikeSteps.{nothing_free}
use Rattle.wide_scripts.proofs.laws.nothing_is_free.Goals as goal

pub returns : goal.returns
returns c = nothing_free
