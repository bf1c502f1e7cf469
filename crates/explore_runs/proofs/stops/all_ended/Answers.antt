use Rattle.std.proofs.Common.{◌≡◌, ◌∙◌, subst, arith}
use Rattle.clmodel.specs.Run.{next_action}
use Rattle.clmodel.specs.declared.action.Action.TheVariants as action
use Rattle.replay.specs.States.{ActsNext}
use Rattle.explore_runs.proofs.Bytes.{one_more_of}
use Rattle.explore_runs.proofs.stops.all_ended.Goals as goal

pub loop-item-init : goal.loop-item-init
loop-item-init g c = λ s at. (at, λ k b. absurd (omega (arith, b)))

pub loop-item-preserved : goal.loop-item-preserved
loop-item-preserved g c = λ s at.
    let l = g.D.Described.launch c.args.launch.now in
    let r = g.D.Runnable.started c.args.launch.now in
    let now = c.loop-item.invariant s at in
    let next = subst (ActsNext l s c.loop-item.item) c.in-Some.is (c.in_ok-action.ensures.value l r s now.0) in
    let ended : next_action l s c.loop-item.item ≡ action.End = next.1 ∙ c.is_end.ensures c.if-not-is_end.false in
    (c.action.ensures.same l r s now.0, one_more_of (λ k. next_action l s k ≡ action.End) c.loop-item.item now.1 ended)

pub returns-in_err-action-clause-same : goal.returns-in_err-action-clause-same
returns-in_err-action-clause-same g c = λ s at. c.action.ensures.same (g.D.Described.launch c.args.launch.now) (g.D.Runnable.started c.args.launch.now) s (c.loop-item.invariant s at).0

pub returns-then-not-is_end-clause-same : goal.returns-then-not-is_end-clause-same
returns-then-not-is_end-clause-same g c = λ s at. c.action.ensures.same (g.D.Described.launch c.args.launch.now) (g.D.Runnable.started c.args.launch.now) s (c.loop-item.invariant s at).0

pub returns-in-None-clause-same : goal.returns-in-None-clause-same
returns-in-None-clause-same g c = λ s at. c.action.ensures.same (g.D.Described.launch c.args.launch.now) (g.D.Runnable.started c.args.launch.now) s (c.loop-item.invariant s at).0

pub returns-clause-same : goal.returns-clause-same
returns-clause-same g c = λ s at. (c.loop-item.invariant s at).0

pub returns-clause-ended : goal.returns-clause-ended
returns-clause-ended g c = λ s at yes k b.
    (c.loop-item.invariant s at).1 k (omega (arith, b, c.requires, c.loop-item-test.false))
