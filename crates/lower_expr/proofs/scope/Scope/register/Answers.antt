use Rattle.std.proofs.Common.{Some, sym, ap, ap₂, ◌∙◌, arith}
use Rattle.lower_expr.specs.Scope.{Scope, free_level, last_place, register_at, register_of}
use Rattle.lower_expr.specs.declared.scope.Entry.{Entry}
use Rattle.lower_expr.proofs.Index.{found_register, found_below, variables_count, is_absent}
use Rattle.lower_expr.proofs.scope.Scope.register.Goals as goal

pub returns-in_default : goal.returns-in_default
returns-in_default c = sym ((is_absent c.args.self.now.variables c.args.name (sym c.place.ensures ∙ c.in_default.is)).1 c.args.self.now.base)

pub index-requires : goal.index-requires
index-requires c =
    let found = ap (λ (s : Scope). last_place s.variables c.args.name) c.self.view_is ∙ sym c.place.ensures ∙ c.in-Some.is in
    let below = found_below c.self.inside.entries.items c.args.name c.in-Some.place found in
    omega (arith, below, c.self.inside.entries.ok.0)

pub returns : goal.returns
returns c =
    let found = ap (λ (s : Scope). last_place s.variables c.args.name) c.self.view_is ∙ sym c.place.ensures ∙ c.in-Some.is in
    ap Some (c.register_at.ensures ∙ ap₂ register_at c.level_at-level.ensures (ap (λ (e : Entry). e.variable.kind) c.index.ensures))
    ∙ found_register c.self.inside.entries.items c.args.name c.in-Some.place c.index.result.now c.self.inside.base.0 found
    ∙ ap (λ (s : Scope). register_of s c.args.name) c.self.view_is

pub level_at-level-requires : goal.level_at-level-requires
level_at-level-requires c =
    let found = ap (λ (s : Scope). last_place s.variables c.args.name) c.self.view_is ∙ sym c.place.ensures ∙ c.in-Some.is in
    let below = found_below c.self.inside.entries.items c.args.name c.in-Some.place found in
    let free = ap (λ (s : Scope). free_level s) c.self.view_is in
    let count = variables_count c.self.inside.entries.items in
    let low = c.requires in
    omega (arith, below, free, count, low)

pub register_at-requires : goal.register_at-requires
register_at-requires c =
    let found = ap (λ (s : Scope). last_place s.variables c.args.name) c.self.view_is ∙ sym c.place.ensures ∙ c.in-Some.is in
    let below = found_below c.self.inside.entries.items c.args.name c.in-Some.place found in
    let free = ap (λ (s : Scope). free_level s) c.self.view_is in
    let count = variables_count c.self.inside.entries.items in
    let level = c.level_at-level.ensures in
    let low = c.requires in
    omega (arith, below, free, count, level, low)
