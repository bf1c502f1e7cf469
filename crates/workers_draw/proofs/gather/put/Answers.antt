use Rattle.std.proofs.Common.{sym, subst}
use Rattle.workers_draw.specs.Groups.{IsThere, InPlace}
use Rattle.workers_draw.proofs.Gathers.{right_set, kept_set, there_set, get_within}
use Rattle.workers_draw.proofs.gather.put.Goals as goal

pub returns-in-Ok-clause-right : goal.returns-in-Ok-clause-right
returns-in-Ok-clause-right g c =
    let gives = g.W.Work.gives c.args.work.now in let at = c.in-Ok.ensures.ok in let some = c.requires.each in
    let number = c.laws.ensures.numbered some.0 c.args.output some.2 in
    subst (InPlace gives) (sym at.1)
    (right_set gives c.args.places.now.items (g.W.Work.number_of c.args.work.now c.args.output) c.args.output (get_within _ _ _ at.0) c.requires.right (subst (λ k. gives k c.args.output) (sym number) some.2))

pub returns-in-Ok-clause-kept : goal.returns-in-Ok-clause-kept
returns-in-Ok-clause-kept g c =
    let gives = g.W.Work.gives c.args.work.now in let at = c.in-Ok.ensures.ok in
    λ group there. subst (λ xs. IsThere xs group) (sym at.1) (kept_set gives c.args.places.now.items (g.W.Work.number_of c.args.work.now c.args.output) c.args.output (get_within _ _ _ at.0) group there)

pub returns-in-Ok-clause-there : goal.returns-in-Ok-clause-there
returns-in-Ok-clause-there g c =
    let gives = g.W.Work.gives c.args.work.now in let at = c.in-Ok.ensures.ok in
    λ group is. subst (λ xs. IsThere xs group) (sym at.1)
    (there_set gives c.args.places.now.items (g.W.Work.number_of c.args.work.now c.args.output) c.args.output (get_within _ _ _ at.0) group (sym (c.laws.ensures.numbered group c.args.output is)))
