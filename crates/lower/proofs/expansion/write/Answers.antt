use Rattle.lower.proofs.expansion.write.Goals as goal

pub returns-in_ok-push-in-Left-clause-bodies : goal.returns-in_ok-push-in-Left-clause-bodies
returns-in_ok-push-in-Left-clause-bodies c =
    rw c.in-Left.is (c.in_ok-open-in-Left.field-0, c.in_ok-push-in-Left.ensures.items, c.in_ok-open-in-Left.ensures.code)
