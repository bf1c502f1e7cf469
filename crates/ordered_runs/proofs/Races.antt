-- Races among the conflicts of an access: where the first conflict is a race, it is the first race.
use Rattle.std.proofs.Common.{◌≡◌, ℕ, zero, suc, false, Option, None, Some, List, [], ◌∷◌, refl, sym, ap, ap₂, ◌∙◌, ◌⊎◌, inl, inr, subst}
use Rattle.std.specs.Option.{option_map}
use Rattle.clmodel.specs.Cells.{byte_count}
use Rattle.clmodel.specs.Launch.{Launch, conflict}
use Rattle.clmodel.specs.Run.{State, or_else}
use Rattle.clmodel.specs.Law.{Logged, Shows, conflict_on, conflict_from, newest_conflict, conflict_fault}
use Rattle.clmodel.specs.declared.access.Access.{Access}
use Rattle.clmodel.specs.declared.access.Clash.{Clash}
use Rattle.clmodel.specs.declared.access.Clash.TheVariants.{Race, Order}
use Rattle.clmodel.specs.declared.access.Conflict as conflict_type
use Rattle.clmodel.proofs.Steps.{none_some, some_inj, map_some, map_none, or_else_none}
use Rattle.clmodel.proofs.Reports.{FoundConflict, conflict_from_found}
use Rattle.ordered_runs.specs.Ordered.{only_race, race, newest_race, is_order_clash}

-- a conflict of an access with an earlier one on a byte
abbrev told : Access → Access → ℕ → Clash → conflict_type.Conflict
told y x byte = λ clash. record { earlier = y; later = x; byte = byte; clash = clash }

first_of : {A : Type 0} (o p : Option A) (t : A) → or_else o p ≡ Some t → (o ≡ Some t) ⊎ ((o ≡ None) × (p ≡ Some t))
first_of None p t h = inr (refl, h)
first_of (Some a) p t h = inl h

-- ---- without a conflict there is no race

none_on : (l : Launch) (x : Access) (byte : ℕ) (earlier : List Access) → conflict_on (conflict l) x byte earlier ≡ None → conflict_on (race l) x byte earlier ≡ None
none_on l x byte [] h = refl
none_on l x byte (y ∷ earlier) h =
    let r : (conflict_on (conflict l) x byte earlier ≡ None) × (option_map (told y x byte) (conflict l y x byte) ≡ None)
    = or_else_none (conflict_on (conflict l) x byte earlier) (option_map (told y x byte) (conflict l y x byte)) h in
    ap₂ (λ a b. or_else a b) (none_on l x byte earlier r.0)
    (ap (λ o. option_map (told y x byte) (only_race o)) (map_none (told y x byte) (conflict l y x byte) r.1))

none_from : (l : Launch) (x : Access) (earlier : List Access) (byte count : ℕ) → conflict_from (conflict l) x earlier byte count ≡ None → conflict_from (race l) x earlier byte count ≡ None
none_from l x earlier byte zero h = refl
none_from l x earlier byte (suc count) h =
    let r : (conflict_on (conflict l) x byte earlier ≡ None) × (conflict_from (conflict l) x earlier (suc byte) count ≡ None)
    = or_else_none (conflict_on (conflict l) x byte earlier) (conflict_from (conflict l) x earlier (suc byte) count) h in
    ap₂ (λ a b. or_else a b) (none_on l x byte earlier r.0) (none_from l x earlier (suc byte) count r.1)

pub none_newest : (l : Launch) (log : List Access) → newest_conflict l log ≡ None → newest_race l log ≡ None
none_newest l [] h = refl
none_newest l (x ∷ earlier) h = none_from l x earlier x.first (byte_count x.width) h

-- ---- where the first conflict is a race, it is the first race

race_on :
    (l : Launch) (x : Access) (byte : ℕ) (earlier : List Access) (c : conflict_type.Conflict) → conflict_on (conflict l) x byte earlier ≡ Some c
    → c.clash ≡ Race → conflict_on (race l) x byte earlier ≡ Some c
race_on l x byte [] c h r = absurd (none_some c h)
race_on l x byte (y ∷ earlier) c h r =
    go (race_on l x byte earlier c) (first_of (conflict_on (conflict l) x byte earlier) (option_map (told y x byte) (conflict l y x byte)) c h)
  where
    here : (clash : Clash) → conflict l y x byte ≡ Some clash → told y x byte clash ≡ c → clash ≡ Race → conflict_on (race l) x byte earlier ≡ None
        → or_else (conflict_on (race l) x byte earlier) (option_map (told y x byte) (race l y x byte)) ≡ Some c
    here clash e q is n =
        ap₂ (λ a b. or_else a b) n (ap (λ o. option_map (told y x byte) (only_race o)) (e ∙ ap Some is))
        ∙ ap (λ z. Some (told y x byte z)) (sym is)
        ∙ ap Some q

    go : (conflict_on (conflict l) x byte earlier ≡ Some c → c.clash ≡ Race → conflict_on (race l) x byte earlier ≡ Some c)
        → (conflict_on (conflict l) x byte earlier ≡ Some c) ⊎ ((conflict_on (conflict l) x byte earlier ≡ None) × (option_map (told y x byte) (conflict l y x byte) ≡ Some c))
        → or_else (conflict_on (race l) x byte earlier) (option_map (told y x byte) (race l y x byte)) ≡ Some c
    go ih (inl e) = ap (λ o. or_else o (option_map (told y x byte) (race l y x byte))) (ih e r)
    go ih (inr e) =
        let m : (clash : Clash) × (conflict l y x byte ≡ Some clash) × (told y x byte clash ≡ c) = map_some (told y x byte) (conflict l y x byte) c e.1 in
        here m.0 m.1 m.2 (ap (λ (z : conflict_type.Conflict). z.clash) m.2 ∙ r) (none_on l x byte earlier e.0)

race_from :
    (l : Launch) (x : Access) (earlier : List Access) (byte count : ℕ) (c : conflict_type.Conflict) → conflict_from (conflict l) x earlier byte count ≡ Some c
    → c.clash ≡ Race → conflict_from (race l) x earlier byte count ≡ Some c
race_from l x earlier byte zero c h r = absurd (none_some c h)
race_from l x earlier byte (suc count) c h r =
    go (race_from l x earlier (suc byte) count c)
    (first_of (conflict_on (conflict l) x byte earlier) (conflict_from (conflict l) x earlier (suc byte) count) c h)
  where
    go : (conflict_from (conflict l) x earlier (suc byte) count ≡ Some c → c.clash ≡ Race → conflict_from (race l) x earlier (suc byte) count ≡ Some c)
        → (conflict_on (conflict l) x byte earlier ≡ Some c) ⊎ ((conflict_on (conflict l) x byte earlier ≡ None) × (conflict_from (conflict l) x earlier (suc byte) count ≡ Some c))
        → or_else (conflict_on (race l) x byte earlier) (conflict_from (race l) x earlier (suc byte) count) ≡ Some c
    go ih (inl e) = ap (λ o. or_else o (conflict_from (race l) x earlier (suc byte) count)) (race_on l x byte earlier c e r)
    go ih (inr e) = ap₂ (λ a b. or_else a b) (none_on l x byte earlier e.0) (ih e.1 r)

pub race_newest : (l : Launch) (log : List Access) (c : conflict_type.Conflict) → newest_conflict l log ≡ Some c → c.clash ≡ Race → newest_race l log ≡ Some c
race_newest l [] c h r = absurd (none_some c h)
race_newest l (x ∷ earlier) c h r = race_from l x earlier x.first (byte_count x.width) c h r

-- ---- what is found

-- a clash that is a race is one among all, and no order
is_race : (o : Option Clash) (clash : Clash) → only_race o ≡ Some clash → (o ≡ Some clash) × (is_order_clash clash ≡ false)
is_race None clash h = absurd (none_some clash h)
is_race (Some Race) clash h = (h, ap is_order_clash (sym (some_inj Race clash h)))
is_race (Some Order) clash h = absurd (none_some clash h)

-- the race of the newest access is a conflict that its state shows, and no order
pub race_shown :
    (l : Launch) (s : State) (c : conflict_type.Conflict) (log : List Access) → s.log ≡ log → newest_race l log ≡ Some c
    → Shows l s (conflict_fault l c) × (is_order_clash c.clash ≡ false)
race_shown l s c [] e h = absurd (none_some c h)
race_shown l s c (x ∷ earlier) e h =
    let r : FoundConflict (race l) x earlier c = conflict_from_found (race l) x earlier x.first (byte_count x.width) c h in
    let w : (conflict l c.earlier c.later c.byte ≡ Some c.clash) × (is_order_clash c.clash ≡ false) = is_race (conflict l c.earlier c.later c.byte) c.clash r.clashes in
    ((c.earlier, c.later, subst (λ z. Logged z c.earlier) (sym e) (inr r.logged), subst (λ z. Logged z c.later) (sym e) (inl (sym r.newest)), refl, refl, refl, refl, refl, w.0), w.1)

-- the conflict of the newest access is of two accesses of the log
pub newest_found :
    (l : Launch) (log : List Access) (c : conflict_type.Conflict) → newest_conflict l log ≡ Some c
    → Logged log c.earlier × Logged log c.later × (conflict l c.earlier c.later c.byte ≡ Some c.clash)
newest_found l [] c h = absurd (none_some c h)
newest_found l (x ∷ earlier) c h =
    let r : FoundConflict (conflict l) x earlier c = conflict_from_found (conflict l) x earlier x.first (byte_count x.width) c h in
    (inr r.logged, inl (sym r.newest), r.clashes)
