use Rattle.std.proofs.Common.{◌≡◌, ◌∷◌, None, is_some, map, reverse, sym, ap, ◌∙◌}
use Rattle.std.specs.List.{find}
use Rattle.std.specs.Option.{option_or, option_copied}
use Rattle.clmodel.specs.Typing.Context.{declared, variable}
use Rattle.cltypes_scope.proofs.Declaring.{held, unheld}
use Rattle.cltypes_scope.proofs.context.Context.variable.Goals as goal

pub returns-in-Some-last_holder : goal.returns-in-Some-last_holder
returns-in-Some-last_holder c =
    let s = c.self.inside in
    let x = c.args.name in
    let none : declared s.inner.entries x ≡ None = sym c.get.ensures.value ∙ ap option_copied c.in_default.is in
    let outer = held (λ scope. scope.entries) x (reverse s.outer.items) c.in-Some-last_holder.scope.now
    (sym (c.in-Some-last_holder.ensures ∙ ap (λ xs. find (λ scope. is_some (declared scope.entries x)) (reverse xs)) c.deref.ensures.value)) in
    c.copied.ensures ∙ c.get-in-Some-last_holder.ensures.value ∙ sym outer ∙ sym (ap (λ o. option_or o (variable (map (λ scope. scope.entries) (reverse s.outer.items)) x)) none)
    ∙ ap (λ v. variable (v.inner ∷ v.outer) x) c.self.view_is

pub returns-in-None : goal.returns-in-None
returns-in-None c =
    let s = c.self.inside in
    let x = c.args.name in
    let none : declared s.inner.entries x ≡ None = sym c.get.ensures.value ∙ ap option_copied c.in_default.is in
    let outer = unheld (λ scope. scope.entries) x (reverse s.outer.items)
    (sym (c.in-None.ensures ∙ ap (λ xs. find (λ scope. is_some (declared scope.entries x)) (reverse xs)) c.deref.ensures.value)) in
    sym outer ∙ sym (ap (λ o. option_or o (variable (map (λ scope. scope.entries) (reverse s.outer.items)) x)) none)
    ∙ ap (λ v. variable (v.inner ∷ v.outer) x) c.self.view_is
