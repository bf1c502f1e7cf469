use Rattle.wide_scripts.proofs.AlikeRuns.{walks_are_wide}
use Rattle.wide_scripts.proofs.laws.walks_are_wide.Goals as goal

pub returns : goal.returns
returns c = walks_are_wide
