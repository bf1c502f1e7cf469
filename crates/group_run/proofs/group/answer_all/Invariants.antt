use Rattle.clmodel.specs.declared.action.Answer.TheVariants.{Done}
use Rattle.group_run.proofs.Items.{Answers}
use Rattle.group_run.specs.Items.{acts_at}
use Rattle.group_run.proofs.group.answer_all.Given as goal

abbrev pub invariant-loop-k : goal.invariant-loop-k
invariant-loop-k g l = Answers (acts_at (g.D.Described.launch l.fn.launch) l.fn.first) Done l.fn.items.items l.items.items l.k
