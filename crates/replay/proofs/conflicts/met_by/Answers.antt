use Rattle.std.proofs.Common.{ap, sym, ◌∙◌}
use Rattle.std.specs.HashMap.{get}
use Rattle.clmodel.proofs.Steps.{none_some}
use Rattle.replay.specs.Spots.{partner_at, same_spot}
use Rattle.replay.proofs.Spots.{one_spot}
use Rattle.replay.proofs.conflicts.met_by.Goals as goal

pub returns-in_default-partner_at : goal.returns-in_default-partner_at
returns-in_default-partner_at g c = λ k (s, told, is, lies).
    let p = c.args.partner in
    let at = c.args.place.now in
    let rule = c.args.rule in
    let x = c.args.access.now in
    let same = one_spot p.item p.kind at.location.now at.byte rule.one_group x c.in-Some.spot s c.in-Some.ensures is in
    none_some k (sym c.in_default-partner_at.is ∙ c.partner_at.ensures
    ∙ ap (λ o. partner_at rule.uniform o c.left_at.result) (c.copied-known.ensures ∙ c.get.ensures.value ∙ ap (get same_spot c.args.firsts.now) same)
    ∙ ap (partner_at rule.uniform (get same_spot c.args.firsts.now s)) c.left_at.ensures ∙ told)
