use Rattle.std.proofs.Common.{Some, ap, sym, ◌∙◌}
use Rattle.item_state.proofs.Sources.{operands_there}
use Rattle.item_state.proofs.StateLaws.{fine}
use Rattle.item_step.proofs.dividing.dividend.Goals as goal

pub kept-requires : goal.kept-requires
kept-requires c =
    (operands_there _ _ _ _ _ _
    (fine c.args.machine.now c.in-Some-Binary.ensures.verified _ (sym c.in-Some-Binary.ensures.value ∙ ap (λ i. Some i) c.in-Some-Binary.field-0-is))).0
