use Rattle.regcode.proofs.SafetyLaws.{never_sticks}
use Rattle.regcode.proofs.safety.never_sticks.Goals as goal

pub returns : goal.returns
returns c = never_sticks
