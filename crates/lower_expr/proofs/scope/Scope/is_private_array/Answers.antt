use Rattle.std.proofs.Common.{sym, ap, ◌∙◌, arith, nat_lt}
use Rattle.clmodel.specs.Next.{has_elements, is_private_array}
use Rattle.lower_expr.specs.Scope.{Scope, last_place}
use Rattle.lower_expr.specs.declared.scope.Entry.{Entry}
use Rattle.lower_expr.proofs.Index.{found_elements, found_below, has_replicated, array_absent}
use Rattle.lower_expr.proofs.scope.Scope.is_private_array.Goals as goal

pub index-requires : goal.index-requires
index-requires c =
    let found = ap (λ (s : Scope). last_place s.variables c.args.name) c.self.view_is ∙ sym c.place.ensures ∙ c.in-Some.is in
    let below = found_below c.self.inside.entries.items c.args.name c.in-Some.place found in
    omega (arith, below, c.self.inside.entries.ok.0)

pub returns-in-Some : goal.returns-in-Some
returns-in-Some c =
    let found = ap (λ (s : Scope). last_place s.variables c.args.name) c.self.view_is ∙ sym c.place.ensures ∙ c.in-Some.is in
    ap (λ (e : Entry). nat_lt 0 e.variable.elements) c.index.ensures
    ∙ sym (has_replicated _) ∙ ap has_elements (sym (found_elements c.self.inside.entries.items c.args.name c.in-Some.place c.index.result.now found))
    ∙ ap (λ (s : Scope). is_private_array s.variables c.args.name) c.self.view_is

pub returns-in-None : goal.returns-in-None
returns-in-None c = sym (array_absent c.args.self.now.variables c.args.name (sym c.place.ensures ∙ c.in-None.is))
