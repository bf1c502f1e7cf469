use Rattle.std.proofs.Common.{[], ◌∷◌, codes}
use Rattle.command_line.specs.CommandLine.{schedule, script}
use Rattle.command_line.proofs.forms.replay_form.Goals as goal

pub returns : goal.returns
returns c =
    c.limited.ensures (codes "replay") (script ∷ schedule ∷ []) (c.with.ensures (codes "replay") (script ∷ []) schedule c.form_on-form.ensures c.needed-schedule.ensures)
