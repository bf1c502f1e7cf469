use Rattle.clmodel.specs.Next.{launch_of}
use Rattle.item_step.specs.Launches.{setup_of}
use Rattle.access_list.specs.ListLogs.{list_log}
use Rattle.spaces.specs.Buffers.{bytes_in}
use Rattle.group_join.proofs.Leading.{Lead}
use Rattle.tests.proofs.merges.merged.Given as goal

abbrev pub invariant-loop-group : goal.invariant-loop-group
invariant-loop-group l = Lead (λ overlay. overlay.bytes) list_log (launch_of (setup_of l.launch) (bytes_in l.buffers)) l.group l.results.items
