use Rattle.spaces.proofs.Performed.{stored, updated, fetched_as}
use Rattle.spaces.proofs.operations.perform.Goals as goal

pub returns-in_ok-store-in-Store : goal.returns-in_ok-store-in-Store
returns-in_ok-store-in-Store g c =
    stored g.S.Space.may_want (g.S.Space.bytes c.args.space.now) (g.S.Space.bytes c.store.new.self) c.args.first c.in-Store.width c.in-Store.value c.args.operation
    c.in-Store.is c.in_ok-store-in-Store.ensures.2

pub returns-in_ok-update-in-Update : goal.returns-in_ok-update-in-Update
returns-in_ok-update-in-Update g c =
    let r = c.in_ok-update-in-Update.ensures in
    updated g.S.Space.may_want (g.S.Space.bytes c.args.space.now) (g.S.Space.bytes c.update.new.self) c.args.first c.in-Update.class c.in-Update.operand r.0 c.args.operation
    c.in-Update.is r.3 r.4

pub returns-in_ok-fetch-in-Fetch : goal.returns-in_ok-fetch-in-Fetch
returns-in_ok-fetch-in-Fetch g c =
    let r = c.in_ok-fetch-in-Fetch.ensures in
    fetched_as g.S.Space.may_want (g.S.Space.bytes c.args.space.now) (g.S.Space.bytes c.fetch.new.self) c.args.first c.in-Fetch.op c.in-Fetch.operand
    c.in_ok-fetch-in-Fetch.field-0 c.args.operation c.in-Fetch.is r.2 r.3
