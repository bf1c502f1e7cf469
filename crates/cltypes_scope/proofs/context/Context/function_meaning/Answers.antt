use Rattle.std.proofs.Common.{None, Some, sym, ap, ◌∙◌}
use Rattle.std.specs.Option.{option_copied}
use Rattle.clmodel.specs.Barrier.{is_barrier}
use Rattle.clmodel.specs.Typing.Context.{called}
use Rattle.cltypes_scope.proofs.Functions.{meaning_there}
use Rattle.cltypes_scope.proofs.context.Context.function_meaning.Goals as goal

pub returns-in-Some : goal.returns-in-Some
returns-in-Some c =
    let v = c.args.self.now in
    let s = c.self.inside in
    sym (meaning_there v c.args.name s.before.entries (Some c.in-Some.signature.now) (λ e. c.if-name-self.false (e ∙ ap (λ z. z.current) (sym c.self.view_is)))
    (ap (λ z. z.before) (sym c.self.view_is)) (sym c.in-Some.ensures.value))

pub returns-in-Some-built_in_named : goal.returns-in-Some-built_in_named
returns-in-Some-built_in_named c =
    let v = c.args.self.now in
    let s = c.self.inside in
    sym (meaning_there v c.args.name s.before.entries None (λ e. c.if-name-self.false (e ∙ ap (λ z. z.current) (sym c.self.view_is)))
    (ap (λ z. z.before) (sym c.self.view_is)) (sym c.get.ensures.value ∙ ap option_copied c.in_default.is)
    ∙ ap (λ f. called None f (is_barrier c.args.name)) (sym c.in-Some-built_in_named.ensures))

pub returns-then-is_barrier : goal.returns-then-is_barrier
returns-then-is_barrier c =
    let v = c.args.self.now in
    let s = c.self.inside in
    let x = c.args.name in
    sym (meaning_there v x s.before.entries None (λ e. c.if-name-self.false (e ∙ ap (λ z. z.current) (sym c.self.view_is)))
    (ap (λ z. z.before) (sym c.self.view_is)) (sym c.get.ensures.value ∙ ap option_copied c.in_default.is)
    ∙ ap (λ f. called None f (is_barrier x)) (sym c.in-None.ensures) ∙ ap (called None None) (sym c.is_barrier.ensures ∙ c.if-is_barrier.true))

pub returns-else-is_barrier : goal.returns-else-is_barrier
returns-else-is_barrier c =
    let v = c.args.self.now in
    let s = c.self.inside in
    let x = c.args.name in
    sym (meaning_there v x s.before.entries None (λ e. c.if-name-self.false (e ∙ ap (λ z. z.current) (sym c.self.view_is)))
    (ap (λ z. z.before) (sym c.self.view_is)) (sym c.get.ensures.value ∙ ap option_copied c.in_default.is)
    ∙ ap (λ f. called None f (is_barrier x)) (sym c.in-None.ensures) ∙ ap (called None None) (sym c.is_barrier.ensures ∙ c.if-is_barrier.false))
