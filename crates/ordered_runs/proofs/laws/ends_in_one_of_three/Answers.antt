use Rattle.ordered_runs.proofs.Runs.{ends_in_one_of_three}
use Rattle.ordered_runs.proofs.laws.ends_in_one_of_three.Goals as goal

pub returns : goal.returns
returns c = ends_in_one_of_three
