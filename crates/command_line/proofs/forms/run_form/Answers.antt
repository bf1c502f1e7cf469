use Rattle.std.proofs.Common.{[], ◌∷◌, codes}
use Rattle.command_line.specs.CommandLine.{budget, file, format, limits, lines, quiet, workers, working}
use Rattle.command_line.proofs.forms.run_form.Goals as goal

pub returns : goal.returns
returns c =
    let worked = c.working.ensures (codes "run") (file ∷ []) c.form_on-form.ensures in
    let lined = c.with.ensures (codes "run") (file ∷ working) lines worked c.flag-lines.ensures in
    let shown = c.formatted-shown.ensures (codes "run") (file ∷ workers ∷ budget ∷ limits ∷ lines ∷ []) lined in
    c.with-2.ensures (codes "run") (file ∷ workers ∷ budget ∷ limits ∷ lines ∷ format ∷ []) quiet shown c.flag-quiet.ensures
