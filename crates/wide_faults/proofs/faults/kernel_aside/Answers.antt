use Rattle.std.proofs.lemmas.Result.{IfOk-weaker}
use Rattle.device.specs.Machine.{machine_of}
use Rattle.wide_faults.proofs.InKernel.{prepared_line}
use Rattle.wide_faults.proofs.faults.kernel_aside.Goals as goal

pub returns-in-Ok : goal.returns-in-Ok
returns-in-Ok c =
    IfOk-weaker c.launch_line.result _ _
    (λ text line. prepared_line (machine_of c.args.device.now) c.args.kernel.now c.args.range.now c.in-Ok.launch c.args.head.now text.items c.in-Ok.ensures.prepared line) c.launch_line.ensures
