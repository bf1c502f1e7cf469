use Rattle.std.proofs.Common.{◌≡◌, ℕ, ◌<◌, Any, IfOk, arith, sym, ◌∙◌, subst, ⊎_elim, inl, inr}
use Rattle.workers_draw.specs.Board.{Has}
use Rattle.workers_draw.specs.Groups.{DidWork}
use Rattle.workers_draw.proofs.run.gathered.Goals as goal

pub in_order-requires-clause-complete : goal.in_order-requires-clause-complete
in_order-requires-clause-complete g c κs within =
    let w = c.args.work.now in let v = c.in_ok-seat.field-0.seat.me.0 in let key = c.requires.count in
    let did : DidWork (g.W.Work.count w) (g.W.Work.gives w) (g.W.Work.stops w) c.args.table.shared.table_id 16 c.in_ok-seat.field-0 =
    subst (λ r. IfOk r (DidWork (g.W.Work.count w) (g.W.Work.gives w) (g.W.Work.stops w) c.args.table.shared.table_id 16)) c.in_ok-seat.was c.requires.worker in
    λ group low.
    ⊎_elim
    (λ (there : Any (g.W.Work.gives w group) c.in_ok-seat.field-0.outputs.items). inl (c.accept_all.ensures.there group there))
    (λ (s : (least : ℕ) × Has v.seen least × (least < group)).
    ⊎_elim
    (λ (end : s.0 ≡ c.args.table.shared.key). absurd (let b = s.2 in omega (arith, b, end, key, low)))
    (λ (stop : Has v.stopped s.0). inr (s.0, s.2, did.right s.0 stop))
    (c.finish.ensures.seen s.0 s.1))
    (did.worked.covered group (c.finish.ensures.drawn group (subst (λ k. group < k) (sym key) low)) low)
