use Rattle.device.proofs.OneLaunch.{launches_once}
use Rattle.device.proofs.laws.launches_once.Goals as goal

pub returns : goal.returns
returns c = launches_once c.one_run.ensures c.one_run-2.ensures
