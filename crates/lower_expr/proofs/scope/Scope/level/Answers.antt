use Rattle.std.proofs.Common.{◌+◌, sym, ap, ◌∙◌, arith}
use Rattle.lower_expr.specs.Scope.{Scope, free_level, last_place}
use Rattle.lower_expr.proofs.Index.{level_found, level_absent, found_below, variables_count}
use Rattle.lower_expr.proofs.scope.Scope.level.Goals as goal

pub level_at-requires : goal.level_at-requires
level_at-requires c =
    let found = ap (λ (s : Scope). last_place s.variables c.args.name) c.self.view_is ∙ sym c.place.ensures ∙ c.in-Some.is in
    let below = found_below c.self.inside.entries.items c.args.name c.in-Some.place found in
    let free = ap (λ (s : Scope). free_level s) c.self.view_is in
    let count = variables_count c.self.inside.entries.items in
    let low = c.requires in
    omega (arith, below, free, count, low)

pub returns-in-Some : goal.returns-in-Some
returns-in-Some c =
    c.level_at.ensures ∙ ap (λ (s : Scope). s.base + c.in-Some.place) c.self.view_is
    ∙ sym (level_found c.args.self.now.base c.args.self.now.variables c.args.name c.in-Some.place (sym c.place.ensures ∙ c.in-Some.is))

pub returns-in-None : goal.returns-in-None
returns-in-None c =
    ap (λ (s : Scope). s.base) c.self.view_is
    ∙ sym (level_absent c.args.self.now.base c.args.self.now.variables c.args.name (sym c.place.ensures ∙ c.in-None.is))
