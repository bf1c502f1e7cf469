use Rattle.lower.proofs.TypedKernels.{typed_kernels_verified}
use Rattle.lower.proofs.kernel_laws.typed_kernels_are_verified.Goals as goal

pub returns : goal.returns
returns c = typed_kernels_verified
