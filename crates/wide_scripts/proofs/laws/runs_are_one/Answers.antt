use Rattle.wide_scripts.proofs.OneAnswer.{runs_are_one}
use Rattle.wide_scripts.proofs.OneBuild.{builds_are_one}
use Rattle.wide_scripts.proofs.laws.runs_are_one.Goals as goal

pub returns : goal.returns
returns c = runs_are_one c.launches_once.ensures (builds_are_one c.one_source.ensures c.typed_exactly.ensures)
