use Rattle.std.proofs.Common.{ap, sym, ◌∙◌, subst, arith}
use Rattle.replay.specs.States.{ActsNext}
use Rattle.ordered_play.specs.Groups.{is_barrier}
use Rattle.ordered_play.proofs.groups.waits.Goals as goal

pub returns-in_err-action-clause-same : goal.returns-in_err-action-clause-same
returns-in_err-action-clause-same g c = λ s at. c.action.ensures.same (g.D.Described.launch c.args.launch.now) (g.D.Runnable.started c.args.launch.now) s at

pub returns-clause-same : goal.returns-clause-same
returns-clause-same g c = λ s at. c.action.ensures.same (g.D.Described.launch c.args.launch.now) (g.D.Runnable.started c.args.launch.now) s at

pub returns-clause-value : goal.returns-clause-value
returns-clause-value g c = λ s at.
    let l = g.D.Described.launch c.args.launch.now in
    let r = g.D.Runnable.started c.args.launch.now in
    let next = subst (ActsNext l s c.args.item) c.in-Some.is (c.in_ok-action.ensures.value l r s at) in
    ap is_barrier next.1 ∙ sym c.is_barrier.ensures

pub unreachable-requires : goal.unreachable-requires
unreachable-requires g c =
    let l = g.D.Described.launch c.args.launch.now in
    let r = g.D.Runnable.started c.args.launch.now in
    let past = subst (ActsNext l c.requires.0 c.args.item) c.in-None.is (c.in_ok-action.ensures.value l r c.requires.0 c.requires.1) in
    omega (arith, past, c.requires.2)
