use Rattle.clmodel.specs.Next.{launch_of}
use Rattle.item_step.specs.Launches.{setup_of}
use Rattle.spaces.specs.Buffers.{bytes_in}
use Rattle.group_join.proofs.Leading.{Lead}
use Rattle.same_logs.proofs.results.run_groups.Given as goal

abbrev pub invariant-loop-group : goal.invariant-loop-group
invariant-loop-group g l = Lead (λ overlay. overlay.bytes) g.L.Logged.log (launch_of (setup_of l.launch) (bytes_in l.buffers)) l.group l.results.items
