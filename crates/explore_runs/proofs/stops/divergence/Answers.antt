use Rattle.std.proofs.Common.{sym, ap, ◌∙◌, subst}
use Rattle.clmodel.specs.Run.{stop_of}
use Rattle.replay.specs.States.{ActsNext}
use Rattle.explore_runs.proofs.Going.{one_group, reported}
use Rattle.explore_runs.proofs.stops.divergence.Goals as goal

pub returns-in_err-action-clause-same : goal.returns-in_err-action-clause-same
returns-in_err-action-clause-same g c = λ s at. c.action.ensures.same (g.D.Described.launch c.args.launch.now) (g.D.Runnable.started c.args.launch.now) s at

pub returns-in_default-clause-same : goal.returns-in_default-clause-same
returns-in_default-clause-same g c = λ s at. c.action.ensures.same (g.D.Described.launch c.args.launch.now) (g.D.Runnable.started c.args.launch.now) s at

pub returns-in_default-stop_of-clause-same : goal.returns-in_default-stop_of-clause-same
returns-in_default-stop_of-clause-same g c = λ s at. c.action.ensures.same (g.D.Described.launch c.args.launch.now) (g.D.Runnable.started c.args.launch.now) s at

pub returns-clause-same : goal.returns-clause-same
returns-clause-same g c = λ s at. c.action.ensures.same (g.D.Described.launch c.args.launch.now) (g.D.Runnable.started c.args.launch.now) s at

pub returns-clause-shows : goal.returns-clause-shows
returns-clause-shows g c = λ s at inside waits.
    let l = g.D.Described.launch c.args.launch.now in
    let r = g.D.Runnable.started c.args.launch.now in
    let next = subst (ActsNext l s c.args.other) c.in-Some.is (c.in_ok-action.ensures.value l r s at) in
    let one = one_group l c.args.other c.args.item c.group_size.result c.group_size.ensures.value (c.are_of_one_group.ensures c.if-not-are_of_one_group.false) in
    let found = ap stop_of next.1 ∙ sym c.stop_of.ensures ∙ c.in-Some-stop_of.is in
    reported l s c.args.other c.args.item c.in-Some-stop_of.found c.args.stop c.report_of.result next.0 inside one found waits c.report_of.ensures.same c.report_of.ensures.apart
