use Rattle.std.proofs.Common.{◌++◌, [], ◌∷◌, sym, ap, ◌∙◌, ⊎_elim, append_assoc}
use Rattle.std.specs.Vec.Iter.{into_iter_items}
use Rattle.workers_draw.specs.Groups.{IsOfSome}
use Rattle.workers_draw.proofs.Gathers.{any_snoc, all_seam}
use Rattle.workers_draw.proofs.gather.accept_all.Goals as goal

pub put-requires-clause-each : goal.put-requires-clause-each
put-requires-clause-each g c κs within =
    all_seam (IsOfSome (g.W.Work.count c.args.work.now) (g.W.Work.gives c.args.work.now)) c.loop-output.yielded c.in-Some.output (into_iter_items c.next.new.self) c.args.outputs.items
    c.requires.each (c.loop-output.invariant.4 ∙ ap (λ r. c.loop-output.yielded ++ r) c.in-Some.ensures.steps.0)

pub loop-output-preserved : goal.loop-output-preserved
loop-output-preserved g c = (
  c.put.ensures.size,
  c.put.ensures.right,
  (λ group there. c.put.ensures.kept group (c.loop-output.invariant.2 group there)),
  (λ group a. ⊎_elim (λ old. c.put.ensures.kept group (c.loop-output.invariant.3 group old)) (λ new. c.put.ensures.there group new) (any_snoc (g.W.Work.gives c.args.work.now group) c.loop-output.yielded c.in-Some.output a)),
  c.loop-output.invariant.4 ∙ ap (λ r. c.loop-output.yielded ++ r) c.in-Some.ensures.steps.0 ∙ sym (append_assoc c.loop-output.yielded (c.in-Some.output ∷ []) (into_iter_items c.next.new.self)),
)
