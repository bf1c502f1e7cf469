use Rattle.std.proofs.Common.{[], codes}
use Rattle.command_line.proofs.forms.version_form.Goals as goal

pub returns : goal.returns
returns c = c.formatted.ensures (codes "version") [] c.named-form.ensures
