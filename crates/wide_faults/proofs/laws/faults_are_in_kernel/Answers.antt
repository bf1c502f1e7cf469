use Rattle.wide_faults.proofs.InKernel.{faults_are_in_kernel}
use Rattle.wide_faults.proofs.laws.faults_are_in_kernel.Goals as goal

pub returns : goal.returns
returns c = faults_are_in_kernel c.launches_once.ensures
