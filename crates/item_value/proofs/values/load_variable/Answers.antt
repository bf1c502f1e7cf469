use Rattle.std.proofs.Common.{Some, refl, sym, ◌∙◌}
use Rattle.std.proofs.lemmas.Bool.{false≢true}
use Rattle.register_values.proofs.Outcomes.{known_some, read_none}
use Rattle.item_value.proofs.values.load_variable.Goals as goal

pub returns-then-is_set : goal.returns-then-is_set
returns-then-is_set c after = known_some _ _ _ after c.kept-value.ensures (c.is_set.ensures.0 c.if-is_set.true)

pub returns-else-is_set : goal.returns-else-is_set
returns-else-is_set c after =
    read_none _ _ _ _ (λ v. after (Some v)) c.kept-value.ensures refl (λ i. false≢true (sym c.if-is_set.false ∙ c.is_set.ensures.1 i))
