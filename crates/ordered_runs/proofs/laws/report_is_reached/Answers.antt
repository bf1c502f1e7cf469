use Rattle.ordered_runs.proofs.Runs.{report_is_reached}
use Rattle.ordered_runs.proofs.laws.report_is_reached.Goals as goal

pub returns : goal.returns
returns c = report_is_reached
