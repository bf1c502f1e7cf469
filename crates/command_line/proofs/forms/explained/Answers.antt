use Rattle.std.proofs.Common.{[], ◌∷◌, codes}
use Rattle.command_line.specs.CommandLine.{script, some_schedule}
use Rattle.command_line.proofs.forms.explained.Goals as goal

pub returns : goal.returns
returns c =
    let with_schedule = c.with.ensures (codes "explain") (script ∷ []) some_schedule c.form_on-form.ensures c.some_schedule.ensures in
    c.formatted.ensures (codes "explain") (script ∷ some_schedule ∷ []) with_schedule
