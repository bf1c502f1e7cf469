-- Spots of a log, as it is gone through.
use Rattle.std.proofs.Common.{◌≡◌, ℕ, ◌+◌, ◌<◌, ◌⊎◌, ◌==◌, not, Bool, true, false, if◌then◌else◌, Option, None, Some, List, refl, sym, ap, ap₂, ◌∙◌, subst, inl, inr, arith, eqb-true, eq-eqb}
use Rattle.std.specs.Prelude.{slice_get}
use Rattle.clmodel.specs.Run.{or_else}
use Rattle.std.proofs.lemmas.Bool.{and_parts, and_from, false≢true}
use Rattle.clmodel.specs.Launch.{Launch, left_at}
use Rattle.clmodel.specs.declared.access.Access.{Access}
use Rattle.clmodel.specs.declared.access.AccessKind.{AccessKind}
use Rattle.clmodel.specs.declared.access.Rule.{Rule}
use Rattle.clmodel.specs.declared.fault.Location.{Location}
use Rattle.clmodel.proofs.Steps.{none_some, some_inj}
use Rattle.replay.specs.Spots.{Finds, IsOther, IsSpot, Meets, is_other, partner_at, same_spot}
use Rattle.replay.specs.declared.conflicts.Firsts.{Firsts}
use Rattle.replay.specs.declared.conflicts.ObjectInterval.{ObjectInterval}

pub below_next : (j k : ℕ) → j < k + 1 → (j < k) ⊎ (j ≡ k)
below_next j k h = grind arith

pub same_spot-is : (a b : ObjectInterval) → same_spot a b ≡ true → a ≡ b
same_spot-is a b h =
    let r : ((a.number == b.number) ≡ true) × ((a.interval == b.interval) ≡ true) = and_parts (a.number == b.number) (a.interval == b.interval) h in
    ap₂ (λ (n i : ℕ). record { number = n; interval = i }) (eqb-true a.number b.number r.0) (eqb-true a.interval b.interval r.1)

pub same_spot-from : (a b : ObjectInterval) → a ≡ b → same_spot a b ≡ true
same_spot-from a b e =
    and_from (a.number == b.number) (a.interval == b.interval) (eq-eqb a.number b.number (ap (λ (s : ObjectInterval). s.number) e)) (eq-eqb a.interval b.interval (ap (λ (s : ObjectInterval). s.interval) e))

-- the access that follows a part of a log is such an access at a spot, and left another byte than this
abbrev pub IsNextOther : ℕ → AccessKind → Location → ℕ → Rule → Access → ObjectInterval → ℕ → Type 0
IsNextOther item kind place byte rule x q w = IsSpot item kind place byte rule.one_group x q × (rule.uniform ≡ true → left_at x byte ≡ w → ⊥)

-- a part of a log one access longer: such an access is one of the part, or the one that follows it
pub other_more :
    (item : ℕ) (kind : AccessKind) (place : Location) (byte : ℕ) (rule : Rule) (log : List Access) (n : ℕ) (x : Access) (q : ObjectInterval) (w k : ℕ) → slice_get log n ≡ Some x
    → IsOther item kind place byte rule log (n + 1) q w k → IsOther item kind place byte rule log n q w k ⊎ IsNextOther item kind place byte rule x q w
other_more item kind place byte rule log n x q w k there (y, below, at, is, other) = go (below_next k n below)
  where
    go : (k < n) ⊎ (k ≡ n) → IsOther item kind place byte rule log n q w k ⊎ IsNextOther item kind place byte rule x q w
    go (inl h) = inl (y, h, at, is, other)
    go (inr e) = inr (subst (λ z. IsNextOther item kind place byte rule z q w) (some_inj y x (sym at ∙ ap (slice_get log) e ∙ there)) (is, other))

pub other_kept :
    (item : ℕ) (kind : AccessKind) (place : Location) (byte : ℕ) (rule : Rule) (log : List Access) (n : ℕ) (q : ObjectInterval) (w k : ℕ) → IsOther item kind place byte rule log n q w k
    → IsOther item kind place byte rule log (n + 1) q w k
other_kept item kind place byte rule log n q w k (y, below, at, is, other) = (y, omega (arith, below), at, is, other)

-- where the access has no spot
pub none_more :
    (item : ℕ) (kind : AccessKind) (place : Location) (byte : ℕ) (rule : Rule) (log : List Access) (n : ℕ) (x : Access) → slice_get log n ≡ Some x
    → ((s : ObjectInterval) → IsSpot item kind place byte rule.one_group x s → ⊥) → (q : ObjectInterval) (w : ℕ) (o : Option ℕ) → Finds o (IsOther item kind place byte rule log n q w)
    → Finds o (IsOther item kind place byte rule log (n + 1) q w)
none_more item kind place byte rule log n x there none q w None d = λ k h. go k (other_more item kind place byte rule log n x q w k there h)
  where
    go : (k : ℕ) → IsOther item kind place byte rule log n q w k ⊎ IsNextOther item kind place byte rule x q w → ⊥
    go k (inl h) = d k h
    go k (inr h) = none q h.0
none_more item kind place byte rule log n x there none q w (Some k) d = other_kept item kind place byte rule log n q w k d

spot_numbers : (s q : ObjectInterval) → s.number ≡ q.number → s.interval ≡ q.interval → s ≡ q
spot_numbers s q e f = ap₂ (λ (n i : ℕ). record { number = n; interval = i }) e f

-- an access has one spot
pub one_spot : (item : ℕ) (kind : AccessKind) (place : Location) (byte : ℕ) (one : Bool) (x : Access) (s q : ObjectInterval) → IsSpot item kind place byte one x s → IsSpot item kind place byte one x q → s ≡ q
one_spot item kind place byte one x s q h g = spot_numbers s q (some_inj s.number q.number (sym h.numbered ∙ g.numbered)) (sym h.in_interval ∙ g.in_interval)

-- ---- what an access adds

other_is : (by_byte : Bool) (left w : ℕ) → is_other by_byte left w ≡ true → by_byte ≡ true → left ≡ w → ⊥
other_is true left w h u e = false≢true (sym (ap not (eq-eqb left w e)) ∙ h)
other_is false left w h u e = false≢true u

other_made : (by_byte : Bool) (left w : ℕ) → (by_byte ≡ true → left ≡ w → ⊥) → is_other by_byte left w ≡ true
other_made true left w h = go (left == w) refl
  where
    go : (b : Bool) → (left == w) ≡ b → not b ≡ true
    go true e = absurd (h refl (eqb-true left w e))
    go false e = refl
other_made false left w h = refl

-- the place of the access that is added, if it left another byte than this
abbrev pub place_if : Bool → ℕ → Option ℕ
place_if is_such place = if is_such then Some place else None

-- what is known of a spot once an access with a spot is added
pub told_more :
    (by_byte : Bool) (known known2 : Option Firsts) (more : Firsts) (same : Bool) (added : Option ℕ) (w : ℕ) → known2 ≡ (if same then Some more else known)
    → (same ≡ true → partner_at by_byte (Some more) w ≡ or_else (partner_at by_byte known w) added)
    → partner_at by_byte known2 w ≡ (if same then or_else (partner_at by_byte known w) added else partner_at by_byte known w)
told_more by_byte known known2 more true added w e f = ap (λ o. partner_at by_byte o w) e ∙ f refl
told_more by_byte known known2 more false added w e f = ap (λ o. partner_at by_byte o w) e

-- where the access has a spot
pub one_more :
    (item : ℕ) (kind : AccessKind) (place : Location) (byte : ℕ) (rule : Rule) (log : List Access) (n : ℕ) (x : Access) (s : ObjectInterval) → slice_get log n ≡ Some x
    → IsSpot item kind place byte rule.one_group x s → (left : ℕ) → left ≡ left_at x byte → (q : ObjectInterval) (w : ℕ) (o more : Option ℕ)
    → more ≡ (if same_spot s q then or_else o (place_if (is_other rule.uniform left w) n) else o) → Finds o (IsOther item kind place byte rule log n q w)
    → Finds more (IsOther item kind place byte rule log (n + 1) q w)
one_more item kind place byte rule log n x s there is left left_is q w o more e d =
    subst (λ z. Finds z (IsOther item kind place byte rule log (n + 1) q w)) (sym e) (go (same_spot s q) refl o d)
  where
    new : (b : Bool) → is_other rule.uniform left w ≡ b → same_spot s q ≡ true → ((k : ℕ) → IsOther item kind place byte rule log n q w k → ⊥)
        → Finds (place_if b n) (IsOther item kind place byte rule log (n + 1) q w)
    new true r f none =
        (x, omega arith, there, subst (IsSpot item kind place byte rule.one_group x) (same_spot-is s q f) is, λ u h. other_is rule.uniform left w r u (left_is ∙ h))
    new false r f none = λ k h. old k (other_more item kind place byte rule log n x q w k there h)
      where
        old : (k : ℕ) → IsOther item kind place byte rule log n q w k ⊎ IsNextOther item kind place byte rule x q w → ⊥
        old k (inl h) = none k h
        old k (inr h) = false≢true (sym r ∙ other_made rule.uniform left w (λ u same. h.1 u (sym left_is ∙ same)))

    elsewhere : same_spot s q ≡ false → ((k : ℕ) → IsOther item kind place byte rule log n q w k → ⊥) → (k : ℕ) → IsOther item kind place byte rule log (n + 1) q w k → ⊥
    elsewhere f none k h = old (other_more item kind place byte rule log n x q w k there h)
      where
        old : IsOther item kind place byte rule log n q w k ⊎ IsNextOther item kind place byte rule x q w → ⊥
        old (inl h) = none k h
        old (inr h) = false≢true (sym f ∙ same_spot-from s q (one_spot item kind place byte rule.one_group x s q is h.0))

    go : (t : Bool) → same_spot s q ≡ t → (o : Option ℕ) → Finds o (IsOther item kind place byte rule log n q w)
        → Finds (if t then or_else o (place_if (is_other rule.uniform left w) n) else o) (IsOther item kind place byte rule log (n + 1) q w)
    go true f None d = new (is_other rule.uniform left w) refl f d
    go true f (Some k) d = other_kept item kind place byte rule log n q w k d
    go false f None d = elsewhere f d
    go false f (Some k) d = other_kept item kind place byte rule log n q w k d

-- ---- the accesses that meet one

-- where none of the accesses so far meets one, nor the next, none of these does
pub met_more :
    (l : Launch) (item : ℕ) (kind : AccessKind) (place : Location) (byte : ℕ) (rule : Rule) (among : ObjectInterval → ℕ → Option ℕ) (log : List Access) (n : ℕ) (x : Access) (found : Option ℕ)
    → slice_get log n ≡ Some x → found ≡ None → Finds found (Meets l item kind place byte rule among x)
    → ((k : ℕ) (y : Access) → k < n → slice_get log k ≡ Some y → (j : ℕ) → Meets l item kind place byte rule among y j → ⊥)
    → (k : ℕ) (y : Access) → k < n + 1 → slice_get log k ≡ Some y → (j : ℕ) → Meets l item kind place byte rule among y j → ⊥
met_more l item kind place byte rule among log n x None there e none before k y below at j is = go (below_next k n below)
  where
    go : (k < n) ⊎ (k ≡ n) → ⊥
    go (inl h) = before k y h at j is
    go (inr same) = none j (subst (λ z. Meets l item kind place byte rule among z j) (some_inj y x (sym at ∙ ap (slice_get log) same ∙ there)) is)
met_more l item kind place byte rule among log n x (Some found) there e none before k y below at j is = absurd (none_some found (sym e))
