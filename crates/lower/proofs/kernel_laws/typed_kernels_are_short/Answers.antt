use Rattle.lower.proofs.ShortKernels.{kernels_short}
use Rattle.lower.proofs.kernel_laws.typed_kernels_are_short.Goals as goal

pub returns : goal.returns
returns c = kernels_short
