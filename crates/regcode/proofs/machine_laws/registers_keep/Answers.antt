use Rattle.regcode.proofs.Registers.{reg_put, reg_kept}
use Rattle.regcode.proofs.machine_laws.registers_keep.Goals as goal

pub returns-clause-put : goal.returns-clause-put
returns-clause-put c = reg_put

pub returns-clause-kept : goal.returns-clause-kept
returns-clause-kept c = reg_kept
