use Rattle.clmodel.specs.Next.{launch_of}
use Rattle.item_step.specs.Launches.{setup_of}
use Rattle.spaces.specs.Buffers.{bytes_in}
use Rattle.device.proofs.Runs.{ordered_end, ordered_fault}
use Rattle.device.proofs.running.run_again.Goals as goal

pub returns-in-Ended : goal.returns-in-Ended
returns-in-Ended c =
    let launch = launch_of (setup_of c.args.launch.now) (bytes_in c.args.buffers.now) in
    ordered_end c.order_is_met.ensures launch c.in_ok-spaces.field-0 c.in-Ended.field-0 c.in-Ended.spaces c.in_ok-contents_of-in-Ended.field-0 c.requires.order
    c.in_ok-spaces.ensures c.in-Ended.is c.in_ok-contents_of-in-Ended.ensures

pub returns : goal.returns
returns c =
    let launch = launch_of (setup_of c.args.launch.now) (bytes_in c.args.buffers.now) in
    ordered_fault launch c.in_ok-spaces.field-0 c.in-Faulted.fault c.in-Faulted.schedule c.in_ok-spaces.ensures c.in-Faulted.is
