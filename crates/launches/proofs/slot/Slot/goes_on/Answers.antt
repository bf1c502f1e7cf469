use Rattle.std.proofs.Common.{subst}
use Rattle.launches.specs.Items.{Runs}
use Rattle.launches.proofs.slot.Slot.goes_on.Goals as goal

pub returns-in-Running-clause-runs : goal.returns-in-Running-clause-runs
returns-in-Running-clause-runs c start answers held = subst (Runs start answers) c.in-Running.is (c.goes_on_brief-action.ensures.runs start answers held)
