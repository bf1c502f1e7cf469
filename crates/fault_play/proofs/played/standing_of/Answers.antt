use Rattle.fault_play.proofs.played.standing_of.Goals as goal

pub returns-in_err-operation-clause-same : goal.returns-in_err-operation-clause-same
returns-in_err-operation-clause-same g c = λ l r s at. c.action.ensures.same l r s (c.stand_of.ensures.same l r s at)

pub returns-in_err-dividend-clause-same : goal.returns-in_err-dividend-clause-same
returns-in_err-dividend-clause-same g c = λ l r s at. c.dividend_of.ensures.same l r s (c.action.ensures.same l r s (c.stand_of.ensures.same l r s at))

pub returns-clause-same : goal.returns-clause-same
returns-clause-same g c = λ l r s at. c.dividend_of.ensures.same l r s (c.action.ensures.same l r s (c.stand_of.ensures.same l r s at))

pub returns-clause-divides : goal.returns-clause-divides
returns-clause-divides g c = λ l r s at. c.in_ok-dividend.ensures.divides l r s (c.action.ensures.same l r s (c.stand_of.ensures.same l r s at))
