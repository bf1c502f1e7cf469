use Rattle.group_join.specs.Launches.{heap_log}
use Rattle.group_join.proofs.run.stands.Goals as goal

pub returns : goal.returns
returns c l g is = (heap_log c.args.came.now.log, c.stands.ensures, is)
