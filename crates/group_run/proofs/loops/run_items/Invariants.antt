use Rattle.std.proofs.Common.{◌≡◌}
use Rattle.joining.specs.Group.{Reached}
use Rattle.group_run.proofs.loops.run_items.Given as goal

abbrev pub ghost-run_interval : goal.ghost-run_interval
ghost-run_interval g a = g.origin

abbrev pub invariant-intervals : goal.invariant-intervals
invariant-intervals g l =
    record {
      plan_same : g.M.Machine.plan l.m ≡ g.M.Machine.plan l.fn.m;
      reached : Reached (g.M.Machine.plan l.fn.m) (g.M.Machine.fits l.m) g.origin l.runs;
    }

abbrev pub decreases-intervals : goal.decreases-intervals
decreases-intervals g l = g.M.Machine.ticks l.m 0
