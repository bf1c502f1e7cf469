use Rattle.clmodel.specs.Next.{launch_of}
use Rattle.item_step.specs.Launches.{setup_of}
use Rattle.spaces.specs.Buffers.{bytes_in}
use Rattle.explore_runs.proofs.explorer.Explorer.play_next.Goals as goal

pub returns : goal.returns
returns c =
    c.note.ensures (launch_of (setup_of c.args.launch.now) (bytes_in c.args.buffers.now)) (record { left = c.requires.explores.left; found = c.requires.explores.found }) c.in_ok-end.ensures
