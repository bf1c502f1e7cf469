use Rattle.workers.proofs.Runs.{result_listed}
use Rattle.workers.proofs.round.shortened.Goals as goal

pub returns-clause-listed : goal.returns-clause-listed
returns-clause-listed c launch group is = result_listed launch group c.args.came c.in_ok-list.list c.in_ok-list.ensures.stands is
