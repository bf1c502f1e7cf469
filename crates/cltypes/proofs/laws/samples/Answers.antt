use Rattle.std.proofs.Common.{refl}
use Rattle.cltypes.proofs.laws.samples.Goals as goal

pub returns : goal.returns
returns c = record { faults = refl; texts = refl; large_texts = refl; sizes = refl }
