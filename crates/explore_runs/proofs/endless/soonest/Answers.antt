use Rattle.clmodel.specs.Next.{launch_of}
use Rattle.item_step.specs.Launches.{setup_of}
use Rattle.spaces.specs.Buffers.{bytes_in}
use Rattle.explore_runs.proofs.endless.soonest.Goals as goal

pub loop-preserved : goal.loop-preserved
loop-preserved c = c.narrowed-endless.ensures (launch_of (setup_of c.args.launch.now) (bytes_in c.args.buffers.now)) c.loop.invariant c.in_ok-end.ensures
