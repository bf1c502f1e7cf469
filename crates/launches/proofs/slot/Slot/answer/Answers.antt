use Rattle.std.proofs.Common.{subst}
use Rattle.item_step.proofs.Going.{arrives_further}
use Rattle.launches.specs.Items.{Runs}
use Rattle.launches.proofs.slot.Slot.answer.Goals as goal

pub returns-in-Running-clause-runs : goal.returns-in-Running-clause-runs
returns-in-Running-clause-runs c start answers held = arrives_further (subst (Runs start answers) c.in-Running.is held) c.answer.ensures.arrives
