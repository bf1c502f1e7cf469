-- The turn of the ordered run: how it stands to that of the canonical run.
use Rattle.std.proofs.Common.{◌≡◌, true, false, Option, None, Some, refl, sym, ap, ◌∙◌, subst}
use Rattle.std.proofs.lemmas.Bool.{false≢true}
use Rattle.clmodel.specs.Launch.{Launch, conflict}
use Rattle.clmodel.specs.Run.{State, IsComplete}
use Rattle.clmodel.specs.Law.{Logged, Shows, Turn, Makes, Reports, Finishes, newest_conflict, conflict_fault, conflict_turn, turn, IsPossible}
use Rattle.clmodel.specs.declared.access.Clash.{Clash}
use Rattle.clmodel.specs.declared.access.Clash.TheVariants.{Race, Order}
use Rattle.clmodel.specs.declared.access.Conflict as conflict_type
use Rattle.clmodel.specs.declared.fault.Fault.{Fault}
use Rattle.clmodel.specs.declared.schedule.Event.{Event}
use Rattle.clmodel.proofs.Steps.{none_some}
use Rattle.clmodel.proofs.Turns.{reports_inj, reports_makes, quiet_finishes}
use Rattle.ordered_runs.specs.Ordered.{newest_race, ordered_turn, HaveMet, is_order, is_order_clash}
use Rattle.ordered_runs.proofs.Unlogged.{quiet_turn, quiet_possible, quiet_shown, quiet_complete}
use Rattle.ordered_runs.proofs.Races.{none_newest, race_newest, race_shown, newest_found}

-- ---- the turn by its parts

pub ordered_parts : (l : Launch) (s : State) → ordered_turn l s ≡ conflict_turn l (newest_race l s.log) (quiet_turn l s)
unfolding ordered_turn
ordered_parts l s = refl

pub turn_parts : (l : Launch) (s : State) → turn l s ≡ conflict_turn l (newest_conflict l s.log) (quiet_turn l s)
unfolding turn
turn_parts l s = refl

made_parts : (l : Launch) (o : Option conflict_type.Conflict) (t : Turn) (e : Event) → conflict_turn l o t ≡ Makes e → (o ≡ None) × (t ≡ Makes e)
made_parts l None t e h = (refl, h)
made_parts l (Some c) t e h = absurd (reports_makes (conflict_fault l c) e h)

-- an event is made only where the newest access has no race, and it is possible
pub ordered_possible : (l : Launch) (s : State) (e : Event) → ordered_turn l s ≡ Makes e → IsPossible l s e
ordered_possible l s e h = quiet_possible l s e (made_parts l (newest_race l s.log) (quiet_turn l s) e (sym (ordered_parts l s) ∙ h)).1

pub ordered_complete : (l : Launch) (s : State) → ordered_turn l s ≡ Finishes → IsComplete l s
ordered_complete l s h = quiet_complete l s (quiet_finishes l (newest_race l s.log) (quiet_turn l s) (sym (ordered_parts l s) ∙ h)).1

pub ordered_shown : (l : Launch) (s : State) (f : Fault) → ordered_turn l s ≡ Reports f → Shows l s f × (is_order f ≡ false)
ordered_shown l s f h = go (newest_race l s.log) refl (sym (ordered_parts l s) ∙ h)
  where
    go : (o : Option conflict_type.Conflict) → newest_race l s.log ≡ o → conflict_turn l o (quiet_turn l s) ≡ Reports f → Shows l s f × (is_order f ≡ false)
    go None e q = quiet_shown l s f q
    go (Some c) e q = subst (λ z. Shows l s z × (is_order z ≡ false)) (reports_inj (conflict_fault l c) f q) (race_shown l s c s.log refl e)

-- ---- where the canonical run goes on, the ordered one does the same

-- the newest access has no conflict
pub same_turn : (l : Launch) (s : State) → newest_conflict l s.log ≡ None → ordered_turn l s ≡ turn l s
same_turn l s h =
    ordered_parts l s
    ∙ ap (λ o. conflict_turn l o (quiet_turn l s)) (none_newest l s.log h ∙ sym h)
    ∙ sym (turn_parts l s)

pub makes_too : (l : Launch) (s : State) (e : Event) → turn l s ≡ Makes e → ordered_turn l s ≡ Makes e
makes_too l s e h = same_turn l s (made_parts l (newest_conflict l s.log) (quiet_turn l s) e (sym (turn_parts l s) ∙ h)).0 ∙ h

pub finishes_too : (l : Launch) (s : State) → turn l s ≡ Finishes → ordered_turn l s ≡ Finishes
finishes_too l s h = same_turn l s (quiet_finishes l (newest_conflict l s.log) (quiet_turn l s) (sym (turn_parts l s) ∙ h)).0 ∙ h

race_not_order : (clash : Clash) → is_order_clash clash ≡ false → clash ≡ Race
race_not_order Race h = refl
race_not_order Order h = absurd (false≢true (sym h))

order_not_race : (clash : Clash) → is_order_clash clash ≡ true → clash ≡ Order
order_not_race Race h = absurd (false≢true h)
order_not_race Order h = refl

pub reports_too : (l : Launch) (s : State) (f : Fault) → turn l s ≡ Reports f → is_order f ≡ false → ordered_turn l s ≡ Reports f
reports_too l s f h n = go (newest_conflict l s.log) refl (sym (turn_parts l s) ∙ h)
  where
    go : (o : Option conflict_type.Conflict) → newest_conflict l s.log ≡ o → conflict_turn l o (quiet_turn l s) ≡ Reports f → ordered_turn l s ≡ Reports f
    go None e q = same_turn l s e ∙ h
    go (Some c) e q =
        let r : c.clash ≡ Race = race_not_order c.clash (subst (λ z. is_order z ≡ false) (sym (reports_inj (conflict_fault l c) f q)) n) in
        ordered_parts l s ∙ ap (λ o. conflict_turn l o (quiet_turn l s)) (race_newest l s.log c e r) ∙ q

-- a report of kind order is of two accesses that met
pub order_met : (l : Launch) (s : State) (f : Fault) → turn l s ≡ Reports f → is_order f ≡ true → HaveMet l s
order_met l s f h is = go (newest_conflict l s.log) refl (sym (turn_parts l s) ∙ h)
  where
    go : (o : Option conflict_type.Conflict) → newest_conflict l s.log ≡ o → conflict_turn l o (quiet_turn l s) ≡ Reports f → HaveMet l s
    go None e q = absurd (false≢true (sym (quiet_shown l s f q).1 ∙ is))
    go (Some c) e q =
        let r : c.clash ≡ Order = order_not_race c.clash (subst (λ z. is_order z ≡ true) (sym (reports_inj (conflict_fault l c) f q)) is) in
        let w : Logged s.log c.earlier × Logged s.log c.later × (conflict l c.earlier c.later c.byte ≡ Some c.clash) = newest_found l s.log c e in
        (c.earlier, c.later, c.byte, w.0, w.1, w.2 ∙ ap Some r)

-- ---- where no two accesses met, the canonical run does as the ordered one

pub unmet_quiet : (l : Launch) (s : State) → newest_race l s.log ≡ None → (HaveMet l s → ⊥) → newest_conflict l s.log ≡ None
unmet_quiet l s n unmet = go (newest_conflict l s.log) refl
  where
    by_clash : (c : conflict_type.Conflict) → newest_conflict l s.log ≡ Some c → (clash : Clash) → c.clash ≡ clash → ⊥
    by_clash c e Race r = none_some c (sym n ∙ race_newest l s.log c e r)
    by_clash c e Order r =
        let w : Logged s.log c.earlier × Logged s.log c.later × (conflict l c.earlier c.later c.byte ≡ Some c.clash) = newest_found l s.log c e in
        unmet (c.earlier, c.later, c.byte, w.0, w.1, w.2 ∙ ap Some r)

    go : (o : Option conflict_type.Conflict) → newest_conflict l s.log ≡ o → newest_conflict l s.log ≡ None
    go None e = e
    go (Some c) e = absurd (by_clash c e c.clash refl)

pub unmet_makes : (l : Launch) (s : State) (e : Event) → ordered_turn l s ≡ Makes e → (HaveMet l s → ⊥) → turn l s ≡ Makes e
unmet_makes l s e h unmet =
    sym (same_turn l s (unmet_quiet l s (made_parts l (newest_race l s.log) (quiet_turn l s) e (sym (ordered_parts l s) ∙ h)).0 unmet)) ∙ h

pub unmet_finishes : (l : Launch) (s : State) → ordered_turn l s ≡ Finishes → (HaveMet l s → ⊥) → turn l s ≡ Finishes
unmet_finishes l s h unmet =
    sym (same_turn l s (unmet_quiet l s (quiet_finishes l (newest_race l s.log) (quiet_turn l s) (sym (ordered_parts l s) ∙ h)).0 unmet)) ∙ h
