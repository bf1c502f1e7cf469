use Rattle.lower.proofs.FitKernels.{kernels_fit}
use Rattle.lower.proofs.kernel_laws.typed_kernels_fit.Goals as goal

pub returns : goal.returns
returns c = kernels_fit
