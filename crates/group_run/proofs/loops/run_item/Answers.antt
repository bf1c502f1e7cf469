use Rattle.std.proofs.Common.{rules, to_z, of_z, w64, ◌≡◌, sym, ap, ◌∙◌, arith}
use Rattle.std.specs.Prelude.{Ok}
use Rattle.clmodel.specs.Run.{stop_of}
use Rattle.clmodel.specs.Law.{Reports}
use Rattle.clmodel.specs.declared.action.Action.TheVariants as action
use Rattle.clmodel.specs.declared.action.Stop.TheVariants.{Ended}
use Rattle.item_step.specs.declared.brief_action.BriefAction.TheVariants as brief
use Rattle.group_run.specs.Stops.{stop_from}
use Rattle.group_run.specs.declared.brief_stop.BriefStop.TheVariants as brief_stop
use Rattle.group_run.proofs.Turns.{advance_asks, stop_asks, acting, fails, told, advanced_on, reported_on}
use Rattle.group_run.proofs.loops.run_item.Goals as goal

pub advance-requires : goal.advance-requires
advance-requires g c κs within =
    let p = g.M.Machine.plan c.args.m.now in
    let r = c.steps.invariant.gathers in
    let acts =
    acting p (g.M.Machine.plan c.steps.m) (g.M.Machine.fits c.steps.m) r.0.0.state c.args.k (g.M.Machine.turns_at c.next.new.self c.args.k) (brief.Access c.in-Ok-Access.object c.in-Ok-Access.element c.in-Ok-Access.operation) c.steps.invariant.plan_same r.0.0.holds
    (c.in-Ok-Access.is ∙ ap Ok c.in-Ok-Access.field-0-is) c.next.ensures.value in
    let back : to_z w64 (of_z w64 c.in-Ok-Access.element) ≡ c.in-Ok-Access.element = search rules in (
      assumption within,
      advance_asks p (g.M.Machine.plan c.next.new.self) (g.M.Machine.fits c.steps.m) (g.M.Machine.fits c.next.new.self) g.origin c.steps.runs c.args.k
          c.in-Ok-Access.object (to_z w64 (of_z w64 c.in-Ok-Access.element)) c.in-Ok-Access.operation (c.next.ensures.plan_same ∙ c.steps.invariant.plan_same) c.requires.1.0 c.requires.1.1.0 c.requires.1.1.1.0 r.0
          c.next.ensures.fits_same (acts ∙ ap (λ z. action.Access c.in-Ok-Access.object z c.in-Ok-Access.operation) (sym back)),
    )

pub stop_at-requires : goal.stop_at-requires
stop_at-requires g c κs within =
    let p = g.M.Machine.plan c.args.m.now in
    let r = c.steps.invariant.gathers in
    let turns = g.M.Machine.turns_at c.next.new.self c.args.k in
    let acts =
    acting p (g.M.Machine.plan c.steps.m) (g.M.Machine.fits c.steps.m) r.0.0.state c.args.k turns (brief.Barrier c.in-Ok-Barrier.site c.in-Ok-Barrier.depth c.in-Ok-Barrier.field-0-2) c.steps.invariant.plan_same r.0.0.holds
    (c.in-Ok-Barrier.is ∙ ap Ok c.in-Ok-Barrier.field-0-is) c.next.ensures.value in (
      assumption within,
      stop_asks p (g.M.Machine.plan c.next.new.self) (g.M.Machine.fits c.steps.m) (g.M.Machine.fits c.next.new.self) g.origin c.steps.runs c.args.k (stop_from (brief_stop.At c.in-Ok-Barrier.site c.in-Ok-Barrier.depth) turns)
          (c.next.ensures.plan_same ∙ c.steps.invariant.plan_same) c.requires.1.0 c.requires.1.1.0 c.steps.leading r c.next.ensures.fits_same (ap stop_of acts),
    )

pub stop_at-requires-in-Ok-End : goal.stop_at-requires-in-Ok-End
stop_at-requires-in-Ok-End g c κs within =
    let p = g.M.Machine.plan c.args.m.now in
    let r = c.steps.invariant.gathers in
    let acts =
    acting p (g.M.Machine.plan c.steps.m) (g.M.Machine.fits c.steps.m) r.0.0.state c.args.k (g.M.Machine.turns_at c.next.new.self c.args.k) brief.End c.steps.invariant.plan_same r.0.0.holds
    (c.in-Ok-End.is ∙ ap Ok c.in-Ok-End.field-0-is) c.next.ensures.value in (
      assumption within,
      stop_asks p (g.M.Machine.plan c.next.new.self) (g.M.Machine.fits c.steps.m) (g.M.Machine.fits c.next.new.self) g.origin c.steps.runs c.args.k Ended
          (c.next.ensures.plan_same ∙ c.steps.invariant.plan_same) c.requires.1.0 c.requires.1.1.0 c.steps.leading r c.next.ensures.fits_same (ap stop_of acts),
    )

pub returns-in-Ok-Fault-clause-halted : goal.returns-in-Ok-Fault-clause-halted
returns-in-Ok-Fault-clause-halted g c =
    let p = g.M.Machine.plan c.args.m.now in
    let q = g.M.Machine.plan c.next.new.self in
    let e : q ≡ p = c.next.ensures.plan_same ∙ c.steps.invariant.plan_same in
    let r = c.steps.invariant.gathers in
    let acts =
    acting p (g.M.Machine.plan c.steps.m) (g.M.Machine.fits c.steps.m) r.0.0.state c.args.k (g.M.Machine.turns_at c.next.new.self c.args.k) (brief.Fault c.in-Ok-Fault.cause) c.steps.invariant.plan_same r.0.0.holds
    (c.in-Ok-Fault.is ∙ ap Ok c.in-Ok-Fault.field-0-is) c.next.ensures.value in
    record {
      state = r.0.0.state;
      runs = r.0.0.runs;
      holds = c.next.ensures.fits_same c.steps.runs r.0.0.state r.0.0.holds;
      reports =
          fails p c.requires.1.0 r.0.0.state c.args.k c.in-Ok-Fault.cause c.requires.1.1.0 r.0.1 r.0.0.calm acts
          ∙ ap Reports (sym (c.in_ok-fault-in-Ok-Fault.ensures ∙ told p q c.first.result c.args.k c.in-Ok-Fault.cause c.first.ensures.value e));
    }

pub steps-preserved : goal.steps-preserved
steps-preserved g c =
    let p = g.M.Machine.plan c.args.m.now in
    let i = c.steps.invariant in
    let r = i.gathers in
    let e = c.next.ensures.plan_same ∙ i.plan_same in
    let acts =
    acting p (g.M.Machine.plan c.steps.m) (g.M.Machine.fits c.steps.m) r.0.0.state c.args.k (g.M.Machine.turns_at c.next.new.self c.args.k) (brief.Access c.in-Ok-Access.object c.in-Ok-Access.element c.in-Ok-Access.operation) i.plan_same r.0.0.holds
    (c.in-Ok-Access.is ∙ ap Ok c.in-Ok-Access.field-0-is) c.next.ensures.value in
    let back : to_z w64 (of_z w64 c.in-Ok-Access.element) ≡ c.in-Ok-Access.element = search rules in
    record {
      plan_same = c.advance.ensures.plan_same ∙ e;
      ticks_kept = λ j. omega (arith, c.advance.ensures.ticks_kept j, c.next.ensures.ticks_same j, i.ticks_kept j);
      gathers =
          advanced_on p (g.M.Machine.plan c.next.new.self) (g.M.Machine.fits c.steps.m) (g.M.Machine.fits c.next.new.self) (g.M.Machine.fits c.advance.new.m) g.origin c.steps.runs
          c.advance.new.runs c.args.k c.steps.leading c.in-Ok-Access.object (to_z w64 (of_z w64 c.in-Ok-Access.element)) c.in-Ok-Access.operation c.in_ok-advance-in-Ok-Access.field-0 e c.in-None.is r
          c.next.ensures.fits_same (acts ∙ ap (λ z. action.Access c.in-Ok-Access.object z c.in-Ok-Access.operation) (sym back)) (c.in_ok-advance-in-Ok-Access.ensures.advanced c.steps.leading);
    }

pub returns-in-Some-clause-halted : goal.returns-in-Some-clause-halted
returns-in-Some-clause-halted g c =
    let p = g.M.Machine.plan c.args.m.now in
    let i = c.steps.invariant in
    let r = i.gathers in
    let acts =
    acting p (g.M.Machine.plan c.steps.m) (g.M.Machine.fits c.steps.m) r.0.0.state c.args.k (g.M.Machine.turns_at c.next.new.self c.args.k) (brief.Access c.in-Ok-Access.object c.in-Ok-Access.element c.in-Ok-Access.operation) i.plan_same r.0.0.holds
    (c.in-Ok-Access.is ∙ ap Ok c.in-Ok-Access.field-0-is) c.next.ensures.value in
    let back : to_z w64 (of_z w64 c.in-Ok-Access.element) ≡ c.in-Ok-Access.element = search rules in
    reported_on p (g.M.Machine.plan c.next.new.self) (g.M.Machine.fits c.steps.m) (g.M.Machine.fits c.next.new.self) (g.M.Machine.fits c.advance.new.m) g.origin c.steps.runs
    c.advance.new.runs c.args.k c.steps.leading c.in-Ok-Access.object (to_z w64 (of_z w64 c.in-Ok-Access.element)) c.in-Ok-Access.operation c.in_ok-advance-in-Ok-Access.field-0 c.in-Some.fault (c.next.ensures.plan_same ∙ i.plan_same) c.in-Some.is r
    c.next.ensures.fits_same (acts ∙ ap (λ z. action.Access c.in-Ok-Access.object z c.in-Ok-Access.operation) (sym back)) (c.in_ok-advance-in-Ok-Access.ensures.advanced c.steps.leading)
