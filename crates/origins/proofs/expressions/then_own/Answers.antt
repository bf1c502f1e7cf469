use Rattle.std.proofs.Common.{subst}
use Rattle.origins.specs.Walks.{Walks}
use Rattle.origins.proofs.Walking.{stops, goes_on}
use Rattle.origins.proofs.expressions.then_own.Goals as goal

pub returns-in-Ok : goal.returns-in-Ok
returns-in-Ok c inside xs n w = goes_on inside xs _ n c.in-Ok.left _ (subst (λ p. Walks inside xs n p) c.in-Ok.is w) (c.pass_own.ensures inside)

pub returns-in-Err : goal.returns-in-Err
returns-in-Err c inside xs n w = stops inside xs _ n c.in-Err.halt (subst (λ p. Walks inside xs n p) c.in-Err.is w)
