use Rattle.joining.proofs.EventGroups as events
use Rattle.joining.proofs.events_are_lower.Goals as goal

pub returns : goal.returns
returns c = events.events_are_lower
