use Rattle.std.proofs.Common.{ap, ◌∙◌}
use Rattle.item_step.specs.BriefActions.{action_from}
use Rattle.group_run.proofs.Turns.{interval_ended, release_asks, after_release, run_over, goes_on, no_barrier}
use Rattle.group_run.proofs.loops.run_items.Goals as goal

pub release-requires : goal.release-requires
release-requires g c =
    let end =
    interval_ended c.intervals.invariant.plan_same c.run_interval.ensures.plan_same c.next.ensures.plan_same c.in-None.is c.in_ok-run_interval.ensures.gathered
    c.next.ensures.fits_same c.in_ok-fences.ensures.value in
    release_asks c.requires.1.0 end _ c.in-Barrier.fences (ap (λ a. action_from a (g.M.Machine.turns_at c.next.new.self 0)) c.in-Barrier.is)

pub push-requires : goal.push-requires
push-requires g c =
    let end =
    interval_ended c.intervals.invariant.plan_same c.run_interval.ensures.plan_same c.next.ensures.plan_same c.in-None.is c.in_ok-run_interval.ensures.gathered
    c.next.ensures.fits_same c.in_ok-fences.ensures.value in
    (after_release c.requires.1.0 end (g.M.Machine.fits c.release.new.self) c.requires.1.1.0 _ c.in-Barrier.fences (ap (λ a. action_from a (g.M.Machine.turns_at c.next.new.self 0)) c.in-Barrier.is) c.in_ok-release-in-Barrier.ensures.made).roomy

pub intervals-preserved : goal.intervals-preserved
intervals-preserved g c =
    let end =
    interval_ended c.intervals.invariant.plan_same c.run_interval.ensures.plan_same c.next.ensures.plan_same c.in-None.is c.in_ok-run_interval.ensures.gathered
    c.next.ensures.fits_same c.in_ok-fences.ensures.value in
    let r = after_release c.requires.1.0 end (g.M.Machine.fits c.release.new.self) c.requires.1.1.0 _ c.in-Barrier.fences (ap (λ a. action_from a (g.M.Machine.turns_at c.next.new.self 0)) c.in-Barrier.is) c.in_ok-release-in-Barrier.ensures.made in
    let w = goes_on r (c.release.ensures.plan_same ∙ end.same) c.group.ensures c.in_ok-push-in-Barrier.ensures.added in
    record { plan_same = w.plan_same; reached = w.reached }

pub returns-in_default : goal.returns-in_default
returns-in_default g c =
    let end =
    interval_ended c.intervals.invariant.plan_same c.run_interval.ensures.plan_same c.next.ensures.plan_same c.in-None.is c.in_ok-run_interval.ensures.gathered
    c.next.ensures.fits_same c.in_ok-fences.ensures.value in
    record { plan_same = end.same; ran = run_over c.requires.1.0 end (no_barrier _ _ c.in_default.not-Barrier) }
