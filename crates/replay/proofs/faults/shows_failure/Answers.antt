use Rattle.std.proofs.Common.{subst}
use Rattle.std.proofs.lemmas.Result.{IfOk-weaker}
use Rattle.replay.specs.Nexts.{cause_of, TellsNext}
use Rattle.replay.proofs.Showing.{never, fails, no_failure}
use Rattle.replay.proofs.Telling.{tells}
use Rattle.replay.proofs.faults.shows_failure.Goals as goal

pub returns-in-Some : goal.returns-in-Some
returns-in-Some g c =
    let l = g.D.Described.launch c.args.launch.now in
    IfOk-weaker c.is_fault_of.result _ _
    (λ answer h. λ r s at.
    fails l s c.args.item c.in-Some.cause c.args.fault.now answer (subst (TellsNext cause_of l s c.args.item) c.in-Some.is (tells cause_of l s c.args.item _ _ c.and_then.ensures (c.in_ok-action.ensures.value l r s at))) h)
    c.is_fault_of.ensures

pub returns-in-None : goal.returns-in-None
returns-in-None g c = λ r s at.
    let l = g.D.Described.launch c.args.launch.now in
    never (no_failure l s c.args.item c.args.fault.now (subst (TellsNext cause_of l s c.args.item) c.in-None.is (tells cause_of l s c.args.item _ _ c.and_then.ensures (c.in_ok-action.ensures.value l r s at))))
