use Rattle.std.proofs.Common.{None, sym, ◌∙◌}
use Rattle.std.proofs.lemmas.Bool.{false≢true}
use Rattle.std.proofs.lemmas.Result.{IfOk-weaker}
use Rattle.std.specs.HashMap.{get}
use Rattle.replay.specs.Spots.{partner_at, same_spot}
use Rattle.replay.proofs.Shown.{pair_needs, paired, shown}
use Rattle.replay.proofs.conflicts.find_conflict.Goals as goal

pub returns-then-told-clause-pair : goal.returns-then-told-clause-pair
returns-then-told-clause-pair g c = λ pair h.
    let told = c.args.told.now in
    absurd ((pair_needs (g.D.Described.launch c.args.launch.now) c.args.log.now told.clash told.first.item told.first.kind told.second.item told.second.kind told.place.location.now told.place.byte pair h).0
    c.if-told.true)

pub returns-then-told-clause-shown : goal.returns-then-told-clause-shown
returns-then-told-clause-shown g c = λ s order.
    let told = c.args.told.now in
    shown (g.D.Described.launch c.args.launch.now) c.args.log.now s told.clash told.first.item told.first.kind told.second.item told.second.kind told.place.location.now told.place.byte None order
    (returns-then-told-clause-pair g c)

pub returns-then-not-clashes-clause-pair : goal.returns-then-not-clashes-clause-pair
returns-then-not-clashes-clause-pair g c = λ pair h.
    let told = c.args.told.now in
    absurd (false≢true (sym c.if-not-clashes.true
    ∙ c.clashes.ensures.1 (pair_needs (g.D.Described.launch c.args.launch.now) c.args.log.now told.clash told.first.item told.first.kind told.second.item told.second.kind told.place.location.now told.place.byte pair h).1))

pub returns-then-not-clashes-clause-shown : goal.returns-then-not-clashes-clause-shown
returns-then-not-clashes-clause-shown g c = λ s order.
    let told = c.args.told.now in
    shown (g.D.Described.launch c.args.launch.now) c.args.log.now s told.clash told.first.item told.first.kind told.second.item told.second.kind told.place.location.now told.place.byte None order
    (returns-then-not-clashes-clause-pair g c)

pub returns-clause-pair : goal.returns-clause-pair
returns-clause-pair g c =
    let told = c.args.told.now in
    let l = g.D.Described.launch c.args.launch.now in
    IfOk-weaker c.first_met.result _ _
    (λ found h.
    paired l c.args.log.now told.clash told.first.item told.first.kind told.second.item told.second.kind told.place.location.now told.place.byte c.rule_of-rule.result
    (λ spot. partner_at c.rule_of-rule.result.uniform (get same_spot c.in_ok-firsts.firsts spot)) found c.rule_of-rule.ensures.groups c.rule_of-rule.ensures.stores c.if-told.false (c.clashes.ensures.0 c.if-not-clashes.false)
    c.in_ok-firsts.ensures h)
    c.first_met.ensures

pub returns-clause-shown : goal.returns-clause-shown
returns-clause-shown g c =
    let told = c.args.told.now in
    IfOk-weaker c.first_met.result _ _
    (λ found h. λ s order.
    shown (g.D.Described.launch c.args.launch.now) c.args.log.now s told.clash told.first.item told.first.kind told.second.item told.second.kind told.place.location.now told.place.byte found order h)
    (returns-clause-pair g c)
