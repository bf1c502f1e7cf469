use Rattle.regcode.proofs.Registers.{array_put, array_kept}
use Rattle.regcode.proofs.machine_laws.arrays_keep.Goals as goal

pub returns-clause-put : goal.returns-clause-put
returns-clause-put c = array_put

pub returns-clause-kept : goal.returns-clause-kept
returns-clause-kept c = array_kept
