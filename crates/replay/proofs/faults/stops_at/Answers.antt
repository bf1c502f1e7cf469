use Rattle.std.proofs.Common.{subst}
use Rattle.clmodel.specs.Run.{stop_of}
use Rattle.replay.specs.Nexts.{TellsNext}
use Rattle.replay.proofs.Showing.{never, stops, no_stop}
use Rattle.replay.proofs.Telling.{tells}
use Rattle.replay.proofs.faults.stops_at.Goals as goal

pub returns-in-Some-clause-value : goal.returns-in-Some-clause-value
returns-in-Some-clause-value g c = λ l r s at.
    stops l s c.args.item c.in-Some.stop c.args.told.now c.same_stop.result c.same_stop.ensures.same c.same_stop.ensures.other
    (subst (TellsNext stop_of l s c.args.item) c.in-Some.is (tells stop_of l s c.args.item _ _ c.and_then.ensures (c.in_ok-action.ensures.value l r s at)))

pub returns-in-None-clause-value : goal.returns-in-None-clause-value
returns-in-None-clause-value g c = λ l r s at.
    never (no_stop l s c.args.item c.args.told.now (subst (TellsNext stop_of l s c.args.item) c.in-None.is (tells stop_of l s c.args.item _ _ c.and_then.ensures (c.in_ok-action.ensures.value l r s at))))
