use Rattle.lower.proofs.ShortKernels.{kernels_few_barriers}
use Rattle.lower.proofs.kernel_laws.typed_kernels_have_few_barriers.Goals as goal

pub returns : goal.returns
returns c = kernels_few_barriers
