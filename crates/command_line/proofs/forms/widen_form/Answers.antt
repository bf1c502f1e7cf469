use Rattle.std.proofs.Common.{[], ◌∷◌, codes}
use Rattle.command_line.specs.CommandLine.{format, script}
use Rattle.command_line.proofs.forms.widen_form.Goals as goal

pub returns : goal.returns
returns c = c.limited.ensures (codes "widen") (script ∷ format ∷ []) (c.formatted.ensures (codes "widen") (script ∷ []) c.form_on-form.ensures)
