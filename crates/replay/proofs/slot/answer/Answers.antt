use Rattle.std.proofs.Common.{[], ◌∷◌, ◌++◌}
use Rattle.replay.proofs.slot.answer.Goals as goal

pub returns-clause-runs : goal.returns-clause-runs
returns-clause-runs c = λ start answers h. c.goes_on_brief.ensures.runs start (answers ++ c.args.answer ∷ []) (c.answer.ensures.runs start answers h)
