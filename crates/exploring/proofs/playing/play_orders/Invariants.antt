use Rattle.clmodel.specs.Next.{launch_of}
use Rattle.item_step.specs.Launches.{setup_of}
use Rattle.spaces.specs.Buffers.{bytes_in}
use Rattle.explore_runs.specs.Explored.{Explores}
use Rattle.exploring.proofs.playing.play_orders.Given as goal

abbrev pub invariant-loop : goal.invariant-loop
invariant-loop g l = Explores (launch_of (setup_of l.launch) (bytes_in l.buffers)) l.explorer
