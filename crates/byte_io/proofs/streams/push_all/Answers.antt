use Rattle.byte_io.proofs.Puts.{pushed_slice, pushed_kept}
use Rattle.byte_io.proofs.streams.push_all.Goals as goal
use Rattle.byte_io.proofs.streams.push_all.Goals.{in-Ok, in-Err+else-ne}

pub loop-preserved : goal.loop-preserved
loop-preserved g c =
    elim c.match-write.branch [
      | in-Ok w ↦ rw w.rest-is (pushed_slice _ _ _ _ _ w.in-Ok.count c.loop.invariant w.in-Ok.ensures.bytes)
      | in-Err+else-ne w ↦ rw w.rest-is (pushed_kept _ _ _ _ _ c.loop.invariant w.in-Err.ensures.bytes)
    ]
