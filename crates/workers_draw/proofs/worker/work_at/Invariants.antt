use Rattle.std.proofs.Common.{◌≡◌, []}
use Rattle.workers_draw.specs.Board.{total, is_past}
use Rattle.workers_draw.specs.Groups.{Worked, AreStops}
use Rattle.workers_draw.proofs.worker.work_at.Given as goal

abbrev pub invariant-loop : goal.invariant-loop
invariant-loop g l =
    (l.seat.table_id ≡ l.fn.board.table_id) × (l.seat.me.1 ≡ []) × (l.seat.me.0.parts ≡ l.fn.seat.me.0.parts)
    × (total (is_past (g.W.Work.count l.work)) l.seat.me.0.drawn ≡ 0)
    × AreStops (g.W.Work.stops l.work) l.seat.me.0
    × Worked (g.W.Work.count l.work) (g.W.Work.gives l.work) l.seat.me.0 l.outputs.items
