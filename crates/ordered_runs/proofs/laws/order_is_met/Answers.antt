use Rattle.ordered_runs.proofs.Runs.{order_is_met}
use Rattle.ordered_runs.proofs.laws.order_is_met.Goals as goal

pub returns : goal.returns
returns c = order_is_met
