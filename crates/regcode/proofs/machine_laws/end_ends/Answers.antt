use Rattle.regcode.proofs.Agreement.{ends, acts_as}
use Rattle.regcode.proofs.machine_laws.end_ends.Goals as goal

pub returns : goal.returns
returns c code setup item answers first = acts_as code setup item _ (ends _ _ _ _ first) answers
