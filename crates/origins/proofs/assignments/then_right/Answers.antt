use Rattle.std.proofs.Common.{subst}
use Rattle.origins.specs.Settings.{inside_in}
use Rattle.origins.specs.Walks.{Walks}
use Rattle.origins.proofs.Walking.{stops, goes_on}
use Rattle.origins.proofs.assignments.then_right.Goals as goal

pub returns-in-Ok : goal.returns-in-Ok
returns-in-Ok c xs n w = goes_on (inside_in c.args.setting) xs _ n c.in-Ok.left _ (subst (λ p. Walks (inside_in c.args.setting) xs n p) c.in-Ok.is w) c.pass_right.ensures

pub returns-in-Err : goal.returns-in-Err
returns-in-Err c xs n w = stops (inside_in c.args.setting) xs _ n c.in-Err.halt (subst (λ p. Walks (inside_in c.args.setting) xs n p) c.in-Err.is w)
