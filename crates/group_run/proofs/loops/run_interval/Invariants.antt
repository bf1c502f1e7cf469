use Rattle.std.proofs.Common.{◌≡◌, ℕ, ◌≤◌}
use Rattle.group_run.specs.Loops.{GathersAt}
use Rattle.group_run.proofs.loops.run_interval.Given as goal

abbrev pub ghost-run_item : goal.ghost-run_item
ghost-run_item g a = g.origin

abbrev pub invariant-loop-k : goal.invariant-loop-k
invariant-loop-k g l =
    record {
      plan_same : g.M.Machine.plan l.m ≡ g.M.Machine.plan l.fn.m;
      ticks_kept : (j : ℕ) → g.M.Machine.ticks l.m j ≤ g.M.Machine.ticks l.fn.m j;
      gathers : GathersAt (g.M.Machine.plan l.fn.m) (g.M.Machine.fits l.m) g.origin l.runs l.k l.leading;
    }
