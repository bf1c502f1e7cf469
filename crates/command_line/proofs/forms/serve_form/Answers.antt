use Rattle.std.proofs.Common.{[], codes}
use Rattle.command_line.proofs.forms.serve_form.Goals as goal

pub returns : goal.returns
returns c = c.working.ensures (codes "serve") [] c.named-form.ensures
