use Rattle.command_line.specs.CommandLine.{format}
use Rattle.command_line.proofs.forms.formatted.Goals as goal

pub returns : goal.returns
returns c name arguments made = c.with.ensures name arguments format made c.option.ensures
