use Rattle.ordered_runs.proofs.Runs.{other_reports_stay}
use Rattle.ordered_runs.proofs.laws.other_reports_stay.Goals as goal

pub returns : goal.returns
returns c = other_reports_stay
