use Rattle.std.proofs.Common.{◌∙◌, ap}
use Rattle.shadow.specs.Seen.{cell, buffer_cells}
use Rattle.shadow.proofs.Cells.{one_more}
use Rattle.shadow.proofs.footprint.make_room.Goals as goal

pub loop-alloc-preserved : goal.loop-alloc-preserved
loop-alloc-preserved c n byte =
    ap (λ z. cell (buffer_cells z) n byte) c.in_ok-push.ensures.items ∙ one_more c.loop-alloc.buffers.items c.new.result c.new.ensures n byte ∙ c.loop-alloc.invariant n byte
