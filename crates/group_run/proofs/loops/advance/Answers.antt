use Rattle.std.proofs.Common.{rules, to_z, of_z, w64, ◌≡◌, ◌+◌, [], ◌∷◌, ◌++◌, sym, ap, subst, ◌∙◌}
use Rattle.clmodel.specs.declared.schedule.Event.TheVariants.{Item}
use Rattle.joining.specs.Group.{Reported}
use Rattle.group_run.specs.Loops.{GathersAt}
use Rattle.group_run.proofs.Turns.{made_done, made_conflict, made_refused, room_done, room_conflict}
use Rattle.group_run.proofs.loops.advance.Goals as goal

pub push-requires : goal.push-requires
push-requires g c =
    let p = g.M.Machine.plan c.args.m.now in
    let r = c.requires.1.1.1.1 in
    room_done p (g.M.Machine.fits c.args.m.now) (g.M.Machine.fits c.access.new.self) g.origin c.args.runs.now c.args.k c.args.object c.args.element c.args.operation c.in_ok-access.field-0 r.0 r.1 _ (let back : to_z w64 (of_z w64 c.args.element) ≡ c.args.element = search rules in back) c.in_ok-access.ensures.made c.in-Done.is c.requires.1.1.1.0

pub push-requires-in-Conflicts : goal.push-requires-in-Conflicts
push-requires-in-Conflicts g c =
    let p = g.M.Machine.plan c.args.m.now in
    let r = c.requires.1.1.1.1 in
    room_conflict p (g.M.Machine.fits c.args.m.now) (g.M.Machine.fits c.access.new.self) g.origin c.args.runs.now c.args.k c.args.object c.args.element c.args.operation c.in_ok-access.field-0 r.0 r.1 _ (let back : to_z w64 (of_z w64 c.args.element) ≡ c.args.element = search rules in back) c.in_ok-access.ensures.made c.in-Conflicts.fault c.in-Conflicts.is c.requires.1.1.1.0

pub returns-in_ok-push-in-Done-clause-advanced : goal.returns-in_ok-push-in-Done-clause-advanced
returns-in_ok-push-in-Done-clause-advanced g c = λ leading at asked.
    let p = g.M.Machine.plan c.args.m.now in
    let e = c.in_ok-push-in-Done.ensures.added ∙ ap (λ n. c.args.runs.now ++ Item (n + c.args.k) ∷ []) c.first.ensures.value in
    subst (λ z. GathersAt p (g.M.Machine.fits c.access.new.self) g.origin z c.args.k leading) (sym e)
    (made_done p (g.M.Machine.fits c.args.m.now) (g.M.Machine.fits c.access.new.self) g.origin c.args.runs.now c.args.k c.args.object c.args.element c.args.operation c.in_ok-access.field-0 at.0 asked _ (let back : to_z w64 (of_z w64 c.args.element) ≡ c.args.element = search rules in back) c.in_ok-access.ensures.made c.in-Done.is c.requires.1.0 c.requires.1.1.0 leading at.1)

pub returns-in_ok-push-in-Conflicts-clause-advanced : goal.returns-in_ok-push-in-Conflicts-clause-advanced
returns-in_ok-push-in-Conflicts-clause-advanced g c = λ leading at asked.
    let p = g.M.Machine.plan c.args.m.now in
    let e = c.in_ok-push-in-Conflicts.ensures.added ∙ ap (λ n. c.args.runs.now ++ Item (n + c.args.k) ∷ []) c.first.ensures.value in
    subst (λ z. Reported p (g.M.Machine.fits c.access.new.self) g.origin z c.in-Conflicts.fault.value) (sym e)
    (made_conflict p (g.M.Machine.fits c.args.m.now) (g.M.Machine.fits c.access.new.self) g.origin c.args.runs.now c.args.k c.args.object c.args.element c.args.operation c.in_ok-access.field-0 at.0 asked _ (let back : to_z w64 (of_z w64 c.args.element) ≡ c.args.element = search rules in back) c.in_ok-access.ensures.made c.in-Conflicts.fault c.in-Conflicts.is c.requires.1.0 c.requires.1.1.0)

pub returns-in-Refused-clause-advanced : goal.returns-in-Refused-clause-advanced
returns-in-Refused-clause-advanced g c = λ leading at asked.
    let p = g.M.Machine.plan c.args.m.now in
    made_refused p (g.M.Machine.fits c.args.m.now) (g.M.Machine.fits c.access.new.self) g.origin c.args.runs.now c.args.k c.args.object c.args.element c.args.operation c.in_ok-access.field-0 at.0 asked _ (let back : to_z w64 (of_z w64 c.args.element) ≡ c.args.element = search rules in back) c.in_ok-access.ensures.made c.in-Refused.fault c.in-Refused.is c.requires.1.0 c.requires.1.1.0
