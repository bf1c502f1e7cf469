use Rattle.explain_reasons.proofs.unset.unset_reason.Goals as goal

pub returns : goal.returns
returns c = (c.in_ok-below.below, c.in_ok-above.above, c.in_ok-below.ensures, c.in_ok-above.ensures, c.stores_reason.ensures)
