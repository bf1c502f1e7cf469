use Rattle.cli.proofs.Servings.{is_ran}
use Rattle.cli.proofs.dialogue.served_is_ran.Goals as goal

pub returns : goal.returns
returns c = is_ran
