use Rattle.std.proofs.Common.{◌≡◌, ℕ, ◌≤◌}
use Rattle.group_run.specs.Loops.{GathersAt}
use Rattle.group_run.proofs.loops.run_item.Given as goal

abbrev pub ghost-advance : goal.ghost-advance
ghost-advance g a = g.origin

abbrev pub ghost-stop_at : goal.ghost-stop_at
ghost-stop_at g a = g.origin

abbrev pub invariant-steps : goal.invariant-steps
invariant-steps g l =
    record {
      plan_same : g.M.Machine.plan l.m ≡ g.M.Machine.plan l.fn.m;
      ticks_kept : (j : ℕ) → g.M.Machine.ticks l.m j ≤ g.M.Machine.ticks l.fn.m j;
      gathers : GathersAt (g.M.Machine.plan l.fn.m) (g.M.Machine.fits l.m) g.origin l.runs l.k l.leading;
    }

abbrev pub decreases-steps : goal.decreases-steps
decreases-steps g l = g.M.Machine.ticks l.m l.k
