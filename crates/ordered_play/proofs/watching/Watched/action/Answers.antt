use Rattle.std.proofs.lemmas.Result.{IfOk-weaker}
use Rattle.ordered_play.proofs.watching.Watched.action.Goals as goal

pub returns-clause-same : goal.returns-clause-same
returns-clause-same g c = λ l r s is. record { at = c.action.ensures.same l r s is.at; kept = is.kept }

pub returns-clause-value : goal.returns-clause-value
returns-clause-value g c = IfOk-weaker c.action.result _ _ (λ action h l r s is. h l r s is.at) c.action.ensures.value
