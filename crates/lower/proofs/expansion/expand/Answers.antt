use Rattle.std.proofs.Common.{◌++◌, ap, sym, ◌∙◌}
use Rattle.lower.proofs.Bodies.{Taken, known_taken, left_taken, work_written}
use Rattle.lower.proofs.expansion.expand.Goals as goal

pub write-requires-clause-bodies : goal.write-requires-clause-bodies
write-requires-clause-bodies c =
    let taken : Taken c.loop-body.bodies.items c.pop.new.self.items c.push-in-Some-pop.new.self.items c.in-Some.body c.pop-in-Some.new.self c.in-Some-pop.part =
    record { last = c.in-Some.ensures.items; popped = c.in-Some-pop.ensures.items; pushed = c.in_ok-push-2.ensures.items } in
    (known_taken _ _ _ _ _ _ taken c.loop-body.invariant.known).0

pub loop-body-smaller-in-Continue-branch-3 : goal.loop-body-smaller-in-Continue-branch-3
loop-body-smaller-in-Continue-branch-3 c =
    let taken : Taken c.loop-body.bodies.items c.pop.new.self.items c.push-in-Some-pop.new.self.items c.in-Some.body c.pop-in-Some.new.self c.in-Some-pop.part =
    record { last = c.in-Some.ensures.items; popped = c.in-Some-pop.ensures.items; pushed = c.in_ok-push-2.ensures.items } in
    let known = (known_taken _ _ _ _ _ _ taken c.loop-body.invariant.known).1 in
    work_written _ _ _ c.write.new.bodies _ _ _ taken known c.in_ok-write.ensures.bodies

pub loop-body-preserved-in-Continue-branch-3 : goal.loop-body-preserved-in-Continue-branch-3
loop-body-preserved-in-Continue-branch-3 c =
    let taken : Taken c.loop-body.bodies.items c.pop.new.self.items c.push-in-Some-pop.new.self.items c.in-Some.body c.pop-in-Some.new.self c.in-Some-pop.part =
    record { last = c.in-Some.ensures.items; popped = c.in-Some-pop.ensures.items; pushed = c.in_ok-push-2.ensures.items } in
    let code = c.in_ok-write.ensures.code ∙ ap (λ xs. c.loop-body.code.items ++ xs) (sym (left_taken _ _ _ _ _ _ taken)) ∙ c.loop-body.invariant.code in
    record { known = c.in_ok-write.ensures.known; code = code }
