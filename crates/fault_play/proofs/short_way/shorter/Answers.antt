use Rattle.std.proofs.lemmas.Result.{IfOk-weaker}
use Rattle.clmodel.specs.Outcome.{events_of}
use Rattle.fault_play.proofs.short_way.shorter.Goals as goal

pub returns-clause-leads : goal.returns-clause-leads
returns-clause-leads c = IfOk-weaker c.shorten.result _ _ (λ short h. (c.shorten.ensures.same (events_of short.schedule)).1 h) c.shorten.ensures.leads
