use Rattle.std.proofs.Common.{sym, ◌∙◌, arith}
use Rattle.group_join.proofs.Numbers.{past_0}
use Rattle.group_join.proofs.changes.word_in.Goals as goal

pub returns-then-not-is_inside : goal.returns-then-not-is_inside
returns-then-not-is_inside c = past_0 c.args.row.now c.args.at 4 (omega arith) (sym c.is_inside.ensures ∙ c.if-not-is_inside.true)
