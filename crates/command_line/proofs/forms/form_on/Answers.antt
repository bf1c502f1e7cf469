use Rattle.std.proofs.Common.{[]}
use Rattle.command_line.specs.CommandLine.{needed}
use Rattle.command_line.proofs.forms.form_on.Goals as goal

pub returns : goal.returns
returns c = c.with.ensures c.args.name.now [] (needed c.args.argument.now) c.named-form.ensures c.needed.ensures
