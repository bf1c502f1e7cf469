use Rattle.clmodel.specs.Next.{launch_of}
use Rattle.item_step.specs.Launches.{setup_of}
use Rattle.spaces.specs.Buffers.{bytes_in}
use Rattle.explore_runs.specs.Orders.{IsOrderEnd}
use Rattle.explore_runs.proofs.endless.soonest.Given as goal

abbrev pub invariant-loop : goal.invariant-loop
invariant-loop l = IsOrderEnd (launch_of (setup_of l.launch) (bytes_in l.buffers)) l.endless.end
