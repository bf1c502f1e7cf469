use Rattle.std.proofs.Common.{[], ◌∷◌, codes}
use Rattle.command_line.specs.CommandLine.{file}
use Rattle.command_line.proofs.forms.check_form.Goals as goal

pub returns : goal.returns
returns c = c.limited.ensures (codes "check") (file ∷ []) c.form_on-form.ensures
