use Rattle.std.proofs.Common.{codes}
use Rattle.command_line.specs.CommandLine.{searched}
use Rattle.command_line.proofs.forms.explore_form.Goals as goal

pub returns : goal.returns
returns c = c.configured.ensures (codes "explore") searched c.searched.ensures
