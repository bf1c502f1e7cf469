use Rattle.ordered_runs.proofs.Runs.{order_goes_on}
use Rattle.ordered_runs.proofs.laws.order_goes_on.Goals as goal

pub returns : goal.returns
returns c = order_goes_on
