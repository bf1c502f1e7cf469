use Rattle.std.proofs.Common.{[], ◌∷◌, ◌++◌, codes}
use Rattle.command_line.specs.CommandLine.{all, as_given, configured, explained, steps, widen}
use Rattle.command_line.proofs.forms.explain_form.Goals as goal

pub returns : goal.returns
returns c =
    let whole = c.configured.ensures (codes "explain") explained c.explained.ensures in
    let given = c.with.ensures (codes "explain") (explained ++ configured) as_given whole c.flag-as_given.ensures in
    let flagged = c.with-flagged.ensures (codes "explain") ((explained ++ configured) ++ as_given ∷ []) all given c.flag-all.ensures in
    let counted = c.with-2.ensures (codes "explain") (((explained ++ configured) ++ as_given ∷ []) ++ all ∷ []) steps flagged c.number-steps.ensures in
    c.with-3.ensures (codes "explain") ((((explained ++ configured) ++ as_given ∷ []) ++ all ∷ []) ++ steps ∷ []) widen counted c.flag-widen.ensures
