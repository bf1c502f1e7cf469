use Rattle.std.proofs.Common.{[], ◌∷◌}
use Rattle.command_line.specs.CommandLine.{configured, workers}
use Rattle.command_line.proofs.CommandLines.{has_both}
use Rattle.command_line.proofs.forms.working.Goals as goal

pub returns : goal.returns
returns c name arguments made =
    has_both name arguments (workers ∷ []) configured c.configured.result (c.configured.ensures name _ (c.with.ensures name arguments workers made c.number-workers.ensures))
