use Rattle.lower.proofs.LowKernels.{kernels_few_registers}
use Rattle.lower.proofs.kernel_laws.typed_kernels_have_few_registers.Goals as goal

pub returns : goal.returns
returns c = kernels_few_registers
