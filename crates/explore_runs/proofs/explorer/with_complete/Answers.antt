use Rattle.std.proofs.Common.{IfSome, subst}
use Rattle.explore_runs.specs.Apart.{IsFirstApart}
use Rattle.explore_runs.specs.Explored.{AreLeft}
use Rattle.explore_runs.proofs.explorer.with_complete.Goals as goal

pub returns-in-Nothing : goal.returns-in-Nothing
returns-in-Nothing c = λ launch were complete. complete

pub returns-in-Some : goal.returns-in-Some
returns-in-Some c = λ launch were complete.
    let apart = subst (λ z. IfSome z (IsFirstApart c.as_slice.result.now c.as_slice-in-Same.result.now)) c.in-Some.is c.first_apart.ensures in
    let mine = subst (λ z. IsFirstApart c.as_slice.result.now z c.in-Some.place) c.as_slice-in-Same.ensures.value apart in
    (subst (AreLeft launch) c.in-Same.is were, complete, subst (λ z. IsFirstApart z c.args.complete.buffers.items c.in-Some.place) c.as_slice.ensures.value mine)

pub returns-in-None : goal.returns-in-None
returns-in-None c = λ launch were complete. subst (AreLeft launch) c.in-Same.is were

pub returns-in-Apart : goal.returns-in-Apart
returns-in-Apart c = λ launch were complete. subst (AreLeft launch) c.in-Apart.is were
