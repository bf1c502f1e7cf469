use Rattle.explain_reasons.proofs.Mattering.{stores_first, stores_second}
use Rattle.explain_reasons.proofs.reasons.race_reason.Goals as goal

pub returns-in-Store-default : goal.returns-in-Store-default
returns-in-Store-default c =
    λ not. stores_first c.args.played.now c.args.kind c.args.other c.store_reason.result c.in-Store-default.is-0 c.store_reason.ensures

pub returns-in_default-Store : goal.returns-in_default-Store
returns-in_default-Store c =
    λ not. stores_second c.args.played.now c.args.kind c.args.other c.store_reason-in_default-Store.result c.in_default-Store.is-1 c.store_reason-in_default-Store.ensures
