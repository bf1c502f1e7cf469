use Rattle.origins.proofs.Marking.{expr_marked}
use Rattle.origins.proofs.MarkedStatements.{kernel_marked}
use Rattle.origins.proofs.origin_laws.code_is_marked.Goals as goal

pub returns-clause-expressions : goal.returns-clause-expressions
returns-clause-expressions c = expr_marked

pub returns-clause-kernels : goal.returns-clause-kernels
returns-clause-kernels c = kernel_marked
