use Rattle.telling.proofs.Marking.{marked}
use Rattle.telling.proofs.told.launch_is_marked.Goals as goal

pub returns : goal.returns
returns c = marked c.args.launch.now c.code_is_marked.ensures.kernels c.requires
