use Rattle.std.proofs.Common.{◌≡◌, ◌++◌, [], ◌∷◌, length, Some, slice_get, arith, sym, ap, ◌∙◌, subst, append_assoc}
use Rattle.std.specs.Vec.Iter.{into_iter_items}
use Rattle.std.proofs.lemmas.List.{nil_from_length}
use lib.ListN.{length-append}
use Rattle.workers_draw.specs.Groups.{AreResults}
use Rattle.workers_draw.proofs.Orders.{SoFar, so_far_push, ends_full, ends_stopped, get_seam, not_empty}
use Rattle.workers_draw.proofs.gather.in_order.Goals as goal

pub unreachable-requires : goal.unreachable-requires
unreachable-requires g c =
    let w = c.args.work.now in let inv = c.loop-place.invariant in
    not_empty (g.W.Work.count w) (g.W.Work.gives w) (g.W.Work.stops w) g.W.Work.is_stopped c.args.places.items c.loop-place.yielded (into_iter_items c.next.new.self) c.loop-place.outputs.items
    (λ n o. c.laws.ensures.stops_stopped n o) (omega (arith, c.args.places.ok.0, c.requires.size)) c.requires.complete inv.0 inv.1
    (inv.2 ∙ ap (λ r. c.loop-place.yielded ++ r) (c.in-Some.ensures.steps.0 ∙ ap (λ p. p ∷ into_iter_items c.next.new.self) c.in_default.is))

pub returns-then-stopped : goal.returns-then-stopped
returns-then-stopped g c =
    let w = c.args.work.now in let inv = c.loop-place.invariant in let os = c.loop-place.outputs.items in let o = c.in-Some-place.output in
    let rest = into_iter_items c.next.new.self in
    let at : slice_get c.args.places.items (length os) ≡ Some (Some o) =
    ap (λ ps. slice_get ps (length os)) (inv.2 ∙ ap (λ r. c.loop-place.yielded ++ r) (c.in-Some.ensures.steps.0 ∙ ap (λ p. p ∷ rest) c.in-Some-place.is))
    ∙ (ap (λ k. slice_get (c.loop-place.yielded ++ Some o ∷ rest) k) (sym inv.1) ∙ get_seam c.loop-place.yielded (Some o) rest) in
    subst (AreResults (g.W.Work.count w) (g.W.Work.gives w) g.W.Work.is_stopped 0) (sym c.in_ok-push.ensures.items)
    (ends_stopped (g.W.Work.gives w) g.W.Work.is_stopped (g.W.Work.count w) 0 os o inv.0 (subst (λ k. g.W.Work.gives w k o) (omega arith) (c.requires.right (length os) o at)) (sym c.if-stopped.ensures))

pub loop-place-preserved : goal.loop-place-preserved
loop-place-preserved g c =
    let w = c.args.work.now in let inv = c.loop-place.invariant in let os = c.loop-place.outputs.items in let o = c.in-Some-place.output in
    let rest = into_iter_items c.next.new.self in
    let at : slice_get c.args.places.items (length os) ≡ Some (Some o) =
    ap (λ ps. slice_get ps (length os)) (inv.2 ∙ ap (λ r. c.loop-place.yielded ++ r) (c.in-Some.ensures.steps.0 ∙ ap (λ p. p ∷ rest) c.in-Some-place.is))
    ∙ (ap (λ k. slice_get (c.loop-place.yielded ++ Some o ∷ rest) k) (sym inv.1) ∙ get_seam c.loop-place.yielded (Some o) rest) in (
      subst (SoFar (g.W.Work.gives w) g.W.Work.is_stopped 0) (sym c.in_ok-push.ensures.items)
          (so_far_push (g.W.Work.gives w) g.W.Work.is_stopped 0 os o inv.0 (subst (λ k. g.W.Work.gives w k o) (omega arith) (c.requires.right (length os) o at)) (sym c.if-stopped.ensures)),
      (let l = length-append os (o ∷ []) in let e = ap length c.in_ok-push.ensures.items in let y = length-append c.loop-place.yielded (c.in-Some.place ∷ []) in omega (arith, l, e, y, inv.1)),
      inv.2 ∙ ap (λ r. c.loop-place.yielded ++ r) c.in-Some.ensures.steps.0 ∙ sym (append_assoc c.loop-place.yielded (c.in-Some.place ∷ []) rest),
    )

pub returns : goal.returns
returns g c =
    let w = c.args.work.now in let inv = c.loop-place.invariant in let rest = into_iter_items c.loop-place.place-iterator in
    let none = nil_from_length rest (sym c.loop-place.place-iterator.rest.ok.0 ∙ c.in-None.ensures.steps.0) in
    let all : length c.args.places.items ≡ length (c.loop-place.yielded ++ rest) = ap length inv.2 in
    let l = length-append c.loop-place.yielded rest in let z = ap length none in
    ends_full (g.W.Work.gives w) g.W.Work.is_stopped (g.W.Work.count w) 0 c.loop-place.outputs.items inv.0 (omega (arith, all, l, z, inv.1, c.args.places.ok.0, c.requires.size))
