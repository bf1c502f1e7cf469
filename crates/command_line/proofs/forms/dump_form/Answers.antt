use Rattle.std.proofs.Common.{[], ◌∷◌, codes}
use Rattle.command_line.specs.CommandLine.{file, kernel}
use Rattle.command_line.proofs.forms.dump_form.Goals as goal

pub returns : goal.returns
returns c = c.limited.ensures (codes "dump") (file ∷ kernel ∷ []) (c.with.ensures (codes "dump") (file ∷ []) kernel c.form_on-form.ensures c.needed.ensures)
