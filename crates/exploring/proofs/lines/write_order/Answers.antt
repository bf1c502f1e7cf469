use Rattle.std.proofs.Common.{sym, ◌∙◌}
use Rattle.exploring.proofs.lines.write_order.Goals as goal

pub returns-then-is_budget : goal.returns-then-is_budget
returns-then-is_budget g c = rw (sym c.is_budget.ensures ∙ c.if-is_budget.true) c.write_pieces.ensures
