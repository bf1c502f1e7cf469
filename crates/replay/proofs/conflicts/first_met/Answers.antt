use Rattle.std.proofs.Common.{ℕ, ◌<◌, Option, length, arith}
use Rattle.std.specs.HashMap.{get}
use Rattle.std.proofs.lemmas.Option.{slice_get-get_or, slice_get_within}
use Rattle.replay.specs.declared.conflicts.ObjectInterval.{ObjectInterval}
use Rattle.replay.specs.Spots.{partner_at, same_spot}
use Rattle.replay.proofs.Spots.{met_more}
use Rattle.replay.proofs.conflicts.first_met.Goals as goal

pub loop-second-preserved : goal.loop-second-preserved
loop-second-preserved g c = λ k x below at j is.
    let p = c.args.partner in
    let place = c.args.place.now in
    let rule = c.args.rule in
    let log = c.args.log.now in
    let n = c.loop-second.second in
    let among : ObjectInterval → ℕ → Option ℕ = λ spot. partner_at rule.uniform (get same_spot c.args.firsts.now spot) in
    let inside : n < length log = omega (arith, c.loop-second-test.true) in
    met_more (g.D.Described.launch c.args.launch.now) p.item p.kind place.location.now place.byte rule among log n _ c.in_ok-first.field-0 (slice_get-get_or log n _ inside) c.in_default.is
    c.in_ok-first.ensures c.loop-second.invariant k x below at j is

pub returns : goal.returns
returns g c = λ pair (x, at, is).
    let within = slice_get_within c.args.log.now pair.second x at in
    let below : pair.second < c.loop-second.second = omega (arith, within, c.loop-second-test.false, c.loop-second.auto.second-end) in
    c.loop-second.invariant pair.second x below at pair.first is
