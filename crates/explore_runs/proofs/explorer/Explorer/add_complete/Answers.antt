use Rattle.std.proofs.Common.{sym, subst}
use Rattle.explore_runs.specs.Explored.{AreLeft}
use Rattle.explore_runs.proofs.explorer.Explorer.add_complete.Goals as goal

pub returns-clause-left : goal.returns-clause-left
returns-clause-left c = λ launch were complete. c.with_complete.ensures launch (subst (AreLeft launch) (sym c.replace-left.ensures.value) were) complete
