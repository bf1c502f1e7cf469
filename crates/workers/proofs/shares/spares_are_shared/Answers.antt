use denote.Param.Send.{IsSync, sendable}
use denote.Param.SendFields.{declared_sync}
use Rattle.std.proofs.Crossing.{crosses, Vec-send}
use Rattle.std.specs.contracts.alloc.Global as Global
use Rattle.std.specs.contracts.impls.GlobalAllocator.TheImpl.{ghosts}
use Rattle.std.specs.contracts.sync.Mutex as Mutex
use Rattle.std.specs.contracts.vec.Vec as Vec
use Rattle.group_join.specs.contracts.heap_log.HeapLog as HeapLog
use Rattle.workers.specs.contracts.spare.SpareLogs as SpareLogs
use Rattle.workers.proofs.shares.spares_are_shared.Goals as goal

pub returns : goal.returns
returns c =
    let lock : IsSync (Mutex.the_row (Vec.the_row HeapLog.the_row Global.the_row ghosts)) = search (sendable, crosses, Vec-send HeapLog.the_row c.heap_logs_are_sent.ensures) in
    declared_sync SpareLogs.the_type (record { shared = lock.shared }, tt)
