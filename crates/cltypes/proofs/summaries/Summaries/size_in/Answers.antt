use Rattle.std.proofs.Common.{nat_eq, sym, ap, ◌∙◌}
use Rattle.std.specs.Option.{option_map, option_copied}
use Rattle.std.proofs.lemmas.Map.Made.{lookup-map_values}
use Rattle.clmodel.specs.Typing.Sizes.{or_nothing, size_in}
use Rattle.cltypes.specs.Limits.{capped, plain}
use Rattle.cltypes.proofs.summaries.Summaries.size_in.Goals as goal

pub returns-in-Some : goal.returns-in-Some
returns-in-Some c =
    let es = c.self.inside.sizes.entries in
    let x = c.args.name in
    c.capped.ensures
    ∙ ap (λ o. capped (or_nothing (option_map plain o))) (sym (ap option_copied c.in-Some.is) ∙ c.get.ensures.value)
    ∙ ap (λ o. capped (or_nothing o)) (sym (lookup-map_values plain (nat_eq x) es))
    ∙ ap (λ v. capped (size_in v x)) c.self.view_is

pub returns-in-None : goal.returns-in-None
returns-in-None c =
    let es = c.self.inside.sizes.entries in
    let x = c.args.name in
    c.nothing.ensures
    ∙ ap (λ o. capped (or_nothing (option_map plain o))) (sym (ap option_copied c.in-None.is) ∙ c.get.ensures.value)
    ∙ ap (λ o. capped (or_nothing o)) (sym (lookup-map_values plain (nat_eq x) es))
    ∙ ap (λ v. capped (size_in v x)) c.self.view_is
