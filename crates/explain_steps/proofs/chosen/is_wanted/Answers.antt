use Rattle.std.proofs.Common.{◌≡◌, ◌∷◌, Bor, Option, option_copied, false, sym, ap, ◌∙◌, subst}
use Rattle.std.specs.Bool.{Decides}
use Rattle.clmodel.specs.declared.schedule.Event.{Event}
use Rattle.fault_play.specs.declared.played.Touch.{Touch}
use Rattle.explain_steps.specs.Bytes.{Holds}
use Rattle.explain_steps.specs.Chosen.{IsAwaited, IsWanted, is_theirs}
use Rattle.explain_steps.proofs.ByteSets.{skipped_held}
use Rattle.explain_steps.proofs.Events.{others_wanted}
use Rattle.explain_steps.proofs.chosen.is_wanted.Goals as goal

pub returns-then-is_theirs-clause-held : goal.returns-then-is_theirs-clause-held
returns-then-is_theirs-clause-held c =
    λ mark later e h.
    let f = c.args.followed in
    subst (λ (o : Option (Bor Touch)). Holds c.go_back.new.self (IsAwaited f ((mark, option_copied o) ∷ later))) (sym c.in-Some.is)
    (c.in_ok-is_given-in-Some.ensures.held f mark later (ap (λ (x : Event). is_theirs f x) e ∙ sym c.is_theirs-is_theirs.ensures) h)

pub returns-else-is_theirs-clause-held : goal.returns-else-is_theirs-clause-held
returns-else-is_theirs-clause-held c =
    λ mark later e h.
    let f = c.args.followed in
    subst (λ (o : Option (Bor Touch)). Holds c.go_back.new.self (IsAwaited f ((mark, option_copied o) ∷ later))) (sym c.in-Some.is)
    (c.in_ok-is_given-in-Some.ensures.held f mark later (ap (λ (x : Event). is_theirs f x) e ∙ sym c.is_theirs-is_theirs.ensures) h)

pub returns-else-is_theirs-clause-wanted : goal.returns-else-is_theirs-clause-wanted
returns-else-is_theirs-clause-wanted c =
    λ mark later e h.
    let f = c.args.followed in
    let other : is_theirs f mark.event ≡ false = ap (λ (x : Event). is_theirs f x) e ∙ sym c.is_theirs-is_theirs.ensures ∙ c.if-is_theirs.false in
    subst (λ (o : Option (Bor Touch)). Decides c.in_ok-is_given-in-Some.is_given (IsWanted f mark (option_copied o) later)) (sym c.in-Some.is)
    (others_wanted f mark c.in-Some.touch.now later c.in_ok-is_given-in-Some.is_given other (c.in_ok-is_given-in-Some.ensures.given f later h))

pub returns-in-None-clause-held : goal.returns-in-None-clause-held
returns-in-None-clause-held c =
    λ mark later e h.
    let f = c.args.followed in
    subst (λ (o : Option (Bor Touch)). Holds c.args.awaited.now (IsAwaited f ((mark, option_copied o) ∷ later))) (sym c.in-None.is) (skipped_held f mark later c.args.awaited.now h)
