use Rattle.lower.proofs.Verified.{kernels_verified}
use Rattle.lower.proofs.KernelWays.{kernels_go}
use Rattle.lower.proofs.Ways.{stmts_sound}
use Rattle.lower_expr.specs.Expressions.{expr_code}
use Rattle.lower.proofs.Sound.{sound_flat}
use Rattle.lower.proofs.Flat.{expression_flat}
use Rattle.lower.proofs.Tabled.{suit_fits}
use Rattle.lower.proofs.Suited.{expressions_suit, targets_suit}
use Rattle.lower.proofs.kernel_laws.code_is_verified.Goals as goal

pub returns-clause-expressions : goal.returns-clause-expressions
returns-clause-expressions c = expressions_suit

pub returns-clause-places : goal.returns-clause-places
returns-clause-places c = targets_suit

pub returns-clause-jumps : goal.returns-clause-jumps
returns-clause-jumps c = expression_flat

pub returns-clause-fits : goal.returns-clause-fits
returns-clause-fits c = suit_fits

pub returns-clause-ways : goal.returns-clause-ways
returns-clause-ways c loops depth exits scope level e = sound_flat loops depth exits (expr_code scope level e) (expression_flat scope level e)

pub returns-clause-statements : goal.returns-clause-statements
returns-clause-statements c sizes calls results inside result sound scope body depth site exits = stmts_sound sizes calls results inside result sound scope body depth site exits

pub returns-clause-kernels : goal.returns-clause-kernels
returns-clause-kernels c = kernels_go

pub returns-clause-verified : goal.returns-clause-verified
returns-clause-verified c = kernels_verified
