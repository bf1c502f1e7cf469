use Rattle.std.proofs.Common.{Bor, ap, sym, ◌∙◌}
use Rattle.std.specs.Option.{option_map}
use Rattle.device.specs.declared.compiled.CompiledKernel.{CompiledKernel}
use Rattle.device.proofs.Programs.{find_kernel, kernel_seen}
use Rattle.device.proofs.Device.compiled.Goals as goal

pub returns-clause-kernel : goal.returns-clause-kernel
returns-clause-kernel c =
    kernel_seen (λ (b : Bor CompiledKernel). b.now) c.get.result ∙ ap (option_map (λ (k : CompiledKernel). k.kernel)) c.get.ensures ∙ sym (find_kernel c.args.self.now.kernels c.args.name.now)
