use Rattle.std.proofs.Common.{◌≡◌, ◌+◌, ◌<◌, subst, ◌∙◌, arith}
use Rattle.group_run.specs.Loops.{Gathers}
use Rattle.group_run.proofs.Turns.{item_asks, item_ran_on}
use Rattle.group_run.proofs.loops.run_interval.Goals as goal

pub run_item-requires : goal.run_item-requires
run_item-requires g c κs within =
    let p = g.M.Machine.plan c.args.m.now in
    let inside : c.loop-k.k < p.count = omega (arith, c.loop-k-test.true, c.count-k-end.ensures) in (
      assumption within,
      item_asks p (g.M.Machine.plan c.loop-k.m) (g.M.Machine.fits c.loop-k.m) g.origin c.loop-k.runs c.loop-k.k c.loop-k.invariant.plan_same c.requires.1.0
          inside c.requires.1.1.0 c.loop-k.leading c.loop-k.invariant.gathers,
    )

pub loop-k-preserved : goal.loop-k-preserved
loop-k-preserved g c =
    let i = c.loop-k.invariant in
    record {
      plan_same = c.run_item.ensures.plan_same ∙ i.plan_same;
      ticks_kept = λ j. omega (arith, c.run_item.ensures.ticks_kept j, i.ticks_kept j);
      gathers =
          item_ran_on (g.M.Machine.plan c.args.m.now) (g.M.Machine.plan c.loop-k.m) (g.M.Machine.fits c.run_item.new.m) g.origin c.run_item.new.runs (c.loop-k.k + 1)
          c.run_item.new.leading c.in_ok-run_item.field-0 i.plan_same c.in-None.is c.in_ok-run_item.ensures.halted;
    }

pub returns-clause-gathered : goal.returns-clause-gathered
returns-clause-gathered g c =
    let p = g.M.Machine.plan c.args.m.now in
    let all : c.loop-k.k ≡ p.count = omega (arith, c.loop-k-test.false, c.loop-k.auto.k-end, c.count-k-end.ensures) in
    subst (λ n. Gathers p (g.M.Machine.fits c.loop-k.m) g.origin c.loop-k.runs n) all c.loop-k.invariant.gathers.0
