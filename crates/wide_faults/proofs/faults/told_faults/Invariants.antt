use Rattle.device.specs.Machine.{machine_of}
use Rattle.wide_faults.proofs.InKernel.{Continues}
use Rattle.wide_faults.proofs.faults.told_faults.Given as goal

abbrev pub invariant-loop-number : goal.invariant-loop-number
invariant-loop-number l = Continues l.all l.places (machine_of l.fn.device) l.commands l.number (machine_of l.device) l.out.items
