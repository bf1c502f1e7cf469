use Rattle.explain_reasons.proofs.Mattering.{with_fetch, with_load, with_store, with_update}
use Rattle.explain_reasons.proofs.reasons.store_reason.Goals as goal

pub returns-in-Load : goal.returns-in-Load
returns-in-Load c = with_load c.args.played.now c.args.other c.in-Load.is

pub returns-in-Store : goal.returns-in-Store
returns-in-Store c = with_store c.args.played.now c.args.other c.stores_reason.result c.in-Store.is c.stores_reason.ensures

pub returns-in-Update : goal.returns-in-Update
returns-in-Update c = with_update c.args.played.now c.args.other c.in-Update.field-0 c.in-Update.is

pub returns-in-Fetch : goal.returns-in-Fetch
returns-in-Fetch c = with_fetch c.args.played.now c.args.other c.in-Fetch.is
