use Rattle.std.proofs.Common.{sym, ◌∙◌}
use Rattle.std.proofs.lemmas.Result.{IfOk-weaker}
use Rattle.explanation.proofs.Telling.{told_as_it_is, told_in_ascii}
use Rattle.explanation.proofs.lines.line_as_text.Goals as goal

pub returns-in-Ok-clause-told : goal.returns-in-Ok-clause-told
returns-in-Ok-clause-told c = IfOk-weaker c.from_str.result _ _ (λ text h. h ∙ c.in-Ok.ensures.cases.0 ∙ told_as_it_is c.args.line.now c.in-Ok.ensures.cases.1) c.from_str.ensures.ok

pub returns-in-Err-clause-told : goal.returns-in-Err-clause-told
returns-in-Err-clause-told c = IfOk-weaker c.ascii_line.result _ _ (λ text h. h ∙ told_in_ascii c.args.line.now c.in-Err.ensures.cases.0) c.ascii_line.ensures
