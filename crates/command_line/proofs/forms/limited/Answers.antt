use Rattle.command_line.specs.CommandLine.{limits}
use Rattle.command_line.proofs.forms.limited.Goals as goal

pub returns : goal.returns
returns c name arguments made = c.with.ensures name arguments limits made c.option-limits.ensures
