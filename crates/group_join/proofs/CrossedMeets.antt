-- Conflicts of a group's accesses with those of the lower groups, by what is kept of these.
use Rattle.std.proofs.Common.{◌≡◌, ℕ, zero, suc, ◌<◌, Bool, true, false, ◌&&◌, Option, None, Some, List, [], ◌∷◌, ◌++◌, refl, sym, ap, ap₂, ◌∙◌, subst, arith, inl, inr}
use Rattle.std.specs.Option.{option_map}
use Rattle.std.proofs.lemmas.Bool.{and_parts, false≢true}
use Rattle.clmodel.specs.Cells.{byte_count}
use Rattle.clmodel.specs.Launch.{Launch, same_region, region_of, clash_at, unordered, share, across_groups, conflict_between, conflict}
use Rattle.clmodel.specs.Run.{or_else}
use Rattle.clmodel.specs.Law.{Logged, conflict_on, conflict_from}
use Rattle.clmodel.specs.declared.access.Access.{Access}
use Rattle.clmodel.specs.declared.access.Clash.{Clash}
use Rattle.clmodel.specs.declared.access.Conflict as conflict_type
use Rattle.clmodel.specs.declared.access.Object.{Object}
use Rattle.clmodel.specs.declared.access.Object.TheVariants as object
use Rattle.clmodel.specs.declared.access.Region.TheVariants as region
use Rattle.clmodel.specs.declared.access.Rule.{Rule}
use Rattle.clmodel.proofs.Steps.{none_some, some_inj, if_some, map_some}
use Rattle.clmodel.proofs.Swaps.{same_region-true}
use Rattle.shadow.specs.Seen.{meeting, meeting_of}
use Rattle.shadow.specs.declared.seen.Meeting.{Meeting}
use Rattle.joining.specs.Crossings.{crossing}

-- ---- what a conflict is of

-- a conflict of an access is with one that it conflicts with
abbrev pub IsOf : (Access → Access → ℕ → Option Clash) → Access → conflict_type.Conflict → Type 0
IsOf judge x c = (c.later ≡ x) × (judge c.earlier x c.byte ≡ Some c.clash)

told_of : (judge : Access → Access → ℕ → Option Clash) (x y : Access) (byte : ℕ) (o : Option Clash) (c : conflict_type.Conflict) → judge y x byte ≡ o
    → option_map (λ clash. record { earlier = y; later = x; byte = byte; clash = clash }) o ≡ Some c → IsOf judge x c
told_of judge x y byte None c e h = absurd (none_some c h)
told_of judge x y byte (Some clash) c e h = subst (IsOf judge x) (some_inj _ c h) (refl, e)

on_of : (judge : Access → Access → ℕ → Option Clash) (x : Access) (byte : ℕ) (log : List Access) (c : conflict_type.Conflict) → conflict_on judge x byte log ≡ Some c → IsOf judge x c
on_of judge x byte [] c h = absurd (none_some c h)
on_of judge x byte (y ∷ log) c h = go (conflict_on judge x byte log) (λ k. on_of judge x byte log c k) h
  where
    go : (o : Option conflict_type.Conflict) → (o ≡ Some c → IsOf judge x c)
        → or_else o (option_map (λ clash. record { earlier = y; later = x; byte = byte; clash = clash }) (judge y x byte)) ≡ Some c → IsOf judge x c
    go None older e = told_of judge x y byte (judge y x byte) c refl e
    go (Some d) older e = older e

pub from_of : (judge : Access → Access → ℕ → Option Clash) (x : Access) (log : List Access) (byte count : ℕ) (c : conflict_type.Conflict) → conflict_from judge x log byte count ≡ Some c
    → IsOf judge x c
from_of judge x log byte zero c h = absurd (none_some c h)
from_of judge x log byte (suc count) c h = go (conflict_on judge x byte log) (λ k. on_of judge x byte log c k) (λ k. from_of judge x log (suc byte) count c k) h
  where
    go : (o : Option conflict_type.Conflict) → (o ≡ Some c → IsOf judge x c) → (conflict_from judge x log (suc byte) count ≡ Some c → IsOf judge x c)
        → or_else o (conflict_from judge x log (suc byte) count) ≡ Some c → IsOf judge x c
    go None here there e = there e
    go (Some d) here there e = here e

and_first : (a b c : Bool) → (a && b && c) ≡ true → a ≡ true
and_first true b c h = refl
and_first false b c h = absurd (false≢true h)

-- two accesses that conflict are in one region
pub one_region : (rule : Rule) (y x : Access) (byte : ℕ) (c : Clash) → conflict_between rule y x byte ≡ Some c → y.region ≡ x.region
unfolding conflict_between
one_region rule y x byte c h =
    let r : ((unordered rule y x && share y x byte) ≡ true) × (clash_at rule y x byte ≡ Some c) = if_some (unordered rule y x && share y x byte) (clash_at rule y x byte) c h in
    let s : (unordered rule y x ≡ true) × (share y x byte ≡ true) = and_parts (unordered rule y x) (share y x byte) r.0 in
    same_region-true y.region x.region (and_first (same_region y.region x.region) _ _ s.1)

pub apart_between : (rule : Rule) (y x : Access) (byte : ℕ) → (y.region ≡ x.region → ⊥) → conflict_between rule y x byte ≡ None
apart_between rule y x byte ne = go (conflict_between rule y x byte) refl
  where
    go : (o : Option Clash) → conflict_between rule y x byte ≡ o → o ≡ None
    go None e = refl
    go (Some c) e = absurd (ne (one_region rule y x byte c e))

-- ---- the regions of two groups

local_owner : (g owner number : ℕ) (o : Object) → region_of g o ≡ region.Local owner number → owner ≡ g
local_owner g owner number (object.Buffer n) h = cc
local_owner g owner number (object.Local n) h = cc

below_not : (h g : ℕ) → h < g → g ≡ h → ⊥
below_not h g b e = omega arith

-- a local object of a group is no region of a lower group
pub other_region : (g h owner number : ℕ) (o p : Object) → h < g → region_of g o ≡ region.Local owner number → region_of h p ≡ region_of g o → ⊥
other_region g h owner number o p b mine same =
    below_not h g b (sym (local_owner g owner number o mine) ∙ local_owner h owner number p (same ∙ mine))

-- ---- the first crossing

pub crossing_none : (l : Launch) (lower log : List Access) → ((y : Access) → Logged log y → conflict_from (conflict l) y lower y.first (byte_count y.width) ≡ None) → crossing l lower log ≡ None
crossing_none l lower [] h = refl
crossing_none l lower (x ∷ log) h =
    ap₂ (λ a b. or_else a (option_map (λ _. x ∷ log) b)) (crossing_none l lower log (λ y w. h y (inr w))) (h x (inl refl))

crossing_here : (l : Launch) (lower log : List Access) (x : Access) (c : conflict_type.Conflict) → crossing l lower log ≡ None
    → conflict_from (conflict l) x lower x.first (byte_count x.width) ≡ Some c → crossing l lower (x ∷ log) ≡ Some (x ∷ log)
crossing_here l lower log x c none h = ap₂ (λ a b. or_else a (option_map (λ _. x ∷ log) b)) none h

pub crossing_at : (l : Launch) (lower later log : List Access) (x : Access) (c : conflict_type.Conflict) → crossing l lower log ≡ None
    → conflict_from (conflict l) x lower x.first (byte_count x.width) ≡ Some c → crossing l lower (later ++ x ∷ log) ≡ Some (x ∷ log)
crossing_at l lower [] log x c none h = crossing_here l lower log x c none h
crossing_at l lower (z ∷ later) log x c none h =
    ap (λ a. or_else a (option_map (λ _. z ∷ (later ++ x ∷ log)) (conflict_from (conflict l) z lower z.first (byte_count z.width)))) (crossing_at l lower later log x c none h)

-- ---- a meeting as a conflict

-- a conflict with what is kept of the lower groups, as it is met
pub record IsMet (u : Bool) (x : Access) (kept : List Access) (met : Meeting) : Type 0 where
  pub conflict : conflict_type.Conflict
  pub there : conflict_from (conflict_between (across_groups u)) x kept x.first (byte_count x.width) ≡ Some conflict
  pub later : conflict.later ≡ x
  pub regions : conflict.earlier.region ≡ x.region
  pub told : meeting_of conflict ≡ met

pub met_conflict : (u : Bool) (x : Access) (kept : List Access) (met : Meeting) → meeting u x kept ≡ Some met → IsMet u x kept met
met_conflict u x kept met h =
    let r = map_some meeting_of (conflict_from (conflict_between (across_groups u)) x kept x.first (byte_count x.width)) met h in
    let o : IsOf (conflict_between (across_groups u)) x r.0 = from_of (conflict_between (across_groups u)) x kept x.first (byte_count x.width) r.0 r.1 in
    record { conflict = r.0; there = r.1; later = o.0; regions = one_region (across_groups u) r.0.earlier x r.0.byte r.0.clash o.1; told = r.2 }
