use Rattle.std.proofs.Common.{[], ◌∷◌}
use Rattle.command_line.specs.CommandLine.{budget, limits}
use Rattle.command_line.proofs.CommandLines.{has_both}
use Rattle.command_line.proofs.forms.configured.Goals as goal

pub returns : goal.returns
returns c name arguments made =
    has_both name arguments (budget ∷ []) (limits ∷ []) c.limited.result (c.limited.ensures name _ (c.with.ensures name arguments budget made c.number-budget.ensures))
