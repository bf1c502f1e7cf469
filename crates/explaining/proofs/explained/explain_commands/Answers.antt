use Rattle.std.proofs.Common.{Bool, List, sym, subst}
use Rattle.explaining.proofs.Walking.{walked_same}
use Rattle.explaining.specs.Leading.{IsNoted}
use Rattle.explaining.proofs.explained.explain_commands.Goals as goal

pub answer_at-requires-clause-walked : goal.answer_at-requires-clause-walked
answer_at-requires-clause-walked c = walked_same _ _ _ _ _ c.in_ok-same.ensures c.in_ok-device.ensures.walked

pub answer_at-requires-clause-noted : goal.answer_at-requires-clause-noted
answer_at-requires-clause-noted c = subst (λ (l : List Bool). IsNoted c.in_ok-device.field-0.end l) (sym c.as_slice.ensures.value) c.in_ok-device.ensures.noted
