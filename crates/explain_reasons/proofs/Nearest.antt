-- The nearest of stores, one more at a time.
use Rattle.std.proofs.Common.{◌≡◌, ◌+◌, ◌<◌, ◌≤◌, ◌⊎◌, ℕ, nat_lt, Bool, true, false, Option, None, Some, List, slice_get, if◌then◌else◌, inl, inr, refl, sym, ap, ◌∙◌, subst, arith}
use Rattle.std.specs.Option.{IfSome}
use Rattle.std.proofs.lemmas.Bool.{cases_lt, lt-ltb, ltb-true, false≢true}
use Rattle.clmodel.specs.declared.fault.Location.{Location}
use Rattle.explanation.specs.declared.reasons.StoredBytes.{StoredBytes}
use Rattle.fault_play.specs.declared.played.Touch.{Touch}
use Rattle.explain_reasons.specs.declared.unset.Near.{Near}
use Rattle.explain_reasons.specs.declared.unset.Side.{Side}
use Rattle.explain_reasons.specs.Stored.{IsAway, IsDistance, IsNearestOf, IsOnSide, Stores, Tells, away, nearer}

same_touch : (touches : List Touch) (k : ℕ) (x y : Touch) → slice_get touches k ≡ Some x → slice_get touches k ≡ Some y → x ≡ y
same_touch touches k x y e f = let g : Some x ≡ Some y = sym e ∙ f in cc

same_number : (d e : ℕ) → Some d ≡ Some e → d ≡ e
same_number d e h = cc

-- a store of a number is the one that is next, or an earlier one
either : (k count : ℕ) → k < count + 1 → (k ≡ count) ⊎ (k < count)
either k count h = go (cases_lt k count)
  where
    go : (k < count) ⊎ (count ≤ k) → (k ≡ count) ⊎ (k < count)
    go (inl before) = inr before
    go (inr past) = inl (omega (arith, h, past))

not_less : (m n : ℕ) → nat_lt m n ≡ false → n ≤ m
not_less m n f = go (cases_lt m n)
  where
    go : (m < n) ⊎ (n ≤ m) → n ≤ m
    go (inl less) = absurd (false≢true (sym f ∙ lt-ltb m n less))
    go (inr past) = past

-- the next access isn't such a store
not_next : (touches : List Touch) (place : Location) (on : Side) (byte count : ℕ) (touch : Touch) → slice_get touches count ≡ Some touch → IsDistance place on byte touch None
    → (distance : ℕ) (other : Touch) → IsAway touches place on byte count distance other → ⊥
not_next touches place on byte count touch at none distance other h =
    let same : other ≡ touch = same_touch touches count other touch h.at at in
    none (subst (λ (t : Touch). Stores place t) same h.stores) distance (subst (λ (t : Touch). away on byte t.byte ≡ Some distance) same h.far)

-- or it is, so far away
is_next : (touches : List Touch) (place : Location) (on : Side) (byte count d : ℕ) (touch : Touch) → slice_get touches count ≡ Some touch → IsDistance place on byte touch (Some d)
    → (distance : ℕ) (other : Touch) → IsAway touches place on byte count distance other → distance ≡ d
is_next touches place on byte count d touch at is distance other h =
    let same : other ≡ touch = same_touch touches count other touch h.at at in
    same_number distance d (sym (subst (λ (t : Touch). away on byte t.byte ≡ Some distance) same h.far) ∙ is.1)

-- the first such store
first_near : (touches : List Touch) (place : Location) (on : Side) (byte count d : ℕ) (touch : Touch) → slice_get touches count ≡ Some touch → IsDistance place on byte touch (Some d)
    → IsNearestOf touches place on byte count None → IsNearestOf touches place on byte (count + 1) (Some (record { distance = d; number = count }))
first_near touches place on byte count d touch at is none = (
  touch,
  record { at = at; stores = is.0; far = is.1 },
  λ k distance other below h. go k distance other h (either k count below),
)
  where
    go : (k distance : ℕ) (other : Touch) → IsAway touches place on byte k distance other → (k ≡ count) ⊎ (k < count) → d ≤ distance
    go k distance other h (inl e) =
        let same : distance ≡ d = is_next touches place on byte count d touch at is distance other (subst (λ (n : ℕ). IsAway touches place on byte n distance other) e h) in omega (arith, same)
    go k distance other h (inr before) = absurd (none k distance other before h)

-- a nearer one
nearer_one : (touches : List Touch) (place : Location) (on : Side) (byte count d : ℕ) (near : Near) (touch : Touch) → slice_get touches count ≡ Some touch
    → IsDistance place on byte touch (Some d) → d < near.distance → IsNearestOf touches place on byte count (Some near)
    → IsNearestOf touches place on byte (count + 1) (Some (record { distance = d; number = count }))
nearer_one touches place on byte count d near touch at is less known = (
  touch,
  record { at = at; stores = is.0; far = is.1 },
  λ k distance other below h. go k distance other h (either k count below),
)
  where
    go : (k distance : ℕ) (other : Touch) → IsAway touches place on byte k distance other → (k ≡ count) ⊎ (k < count) → d ≤ distance
    go k distance other h (inl e) =
        let same : distance ≡ d = is_next touches place on byte count d touch at is distance other (subst (λ (n : ℕ). IsAway touches place on byte n distance other) e h) in omega (arith, same)
    go k distance other h (inr before) = let far : near.distance ≤ distance = known.2 k distance other before h in omega (arith, far, less)

-- one that isn't nearer
no_nearer : (touches : List Touch) (place : Location) (on : Side) (byte count d : ℕ) (near : Near) (touch : Touch) → slice_get touches count ≡ Some touch
    → IsDistance place on byte touch (Some d) → near.distance ≤ d → IsNearestOf touches place on byte count (Some near) → IsNearestOf touches place on byte (count + 1) (Some near)
no_nearer touches place on byte count d near touch at is more known = (known.0, known.1, λ k distance other below h. go k distance other h (either k count below))
  where
    go : (k distance : ℕ) (other : Touch) → IsAway touches place on byte k distance other → (k ≡ count) ⊎ (k < count) → near.distance ≤ distance
    go k distance other h (inl e) =
        let same : distance ≡ d = is_next touches place on byte count d touch at is distance other (subst (λ (n : ℕ). IsAway touches place on byte n distance other) e h) in
        omega (arith, same, more)
    go k distance other h (inr before) = known.2 k distance other before h

-- none at all
none_more : (touches : List Touch) (place : Location) (on : Side) (byte count : ℕ) (known : Option Near) (touch : Touch) → slice_get touches count ≡ Some touch
    → IsDistance place on byte touch None → IsNearestOf touches place on byte count known → IsNearestOf touches place on byte (count + 1) known
none_more touches place on byte count None touch at none old = λ k distance other below h. go k distance other h (either k count below)
  where
    go : (k distance : ℕ) (other : Touch) → IsAway touches place on byte k distance other → (k ≡ count) ⊎ (k < count) → ⊥
    go k distance other h (inl e) = not_next touches place on byte count touch at none distance other (subst (λ (n : ℕ). IsAway touches place on byte n distance other) e h)
    go k distance other h (inr before) = old k distance other before h
none_more touches place on byte count (Some near) touch at none old = (old.0, old.1, λ k distance other below h. go k distance other h (either k count below))
  where
    go : (k distance : ℕ) (other : Touch) → IsAway touches place on byte k distance other → (k ≡ count) ⊎ (k < count) → near.distance ≤ distance
    go k distance other h (inl e) = absurd (not_next touches place on byte count touch at none distance other (subst (λ (n : ℕ). IsAway touches place on byte n distance other) e h))
    go k distance other h (inr before) = old.2 k distance other before h

-- one access more
pub nearest_more :
    (touches : List Touch) (place : Location) (on : Side) (byte count : ℕ) (known next : Option Near) (found : Option ℕ) (touch : Touch) → slice_get touches count ≡ Some touch
    → IsDistance place on byte touch found → next ≡ nearer known count found → IsNearestOf touches place on byte count known → IsNearestOf touches place on byte (count + 1) next
nearest_more touches place on byte count known next None touch at none e old =
    subst (λ (o : Option Near). IsNearestOf touches place on byte (count + 1) o) (sym e) (none_more touches place on byte count known touch at none old)
nearest_more touches place on byte count None next (Some d) touch at is e old =
    subst (λ (o : Option Near). IsNearestOf touches place on byte (count + 1) o) (sym e) (first_near touches place on byte count d touch at is old)
nearest_more touches place on byte count (Some near) next (Some d) touch at is e old = subst (λ (o : Option Near). IsNearestOf touches place on byte (count + 1) o) (sym e) (go (nat_lt d near.distance) refl)
  where
    go : (b : Bool) → nat_lt d near.distance ≡ b
        → IsNearestOf touches place on byte (count + 1) (if b then Some (record { distance = d; number = count }) else Some near)
    go true t = nearer_one touches place on byte count d near touch at is (ltb-true d near.distance t) old
    go false f = no_nearer touches place on byte count d near touch at is (not_less d near.distance f) old

-- the nearest of all, as it is told
pub told_side :
    (touches : List Touch) (place : Location) (on : Side) (byte count : ℕ) (near : Near) (touch : Touch) (stored : StoredBytes) → ((k : ℕ) (other : Touch) → slice_get touches k ≡ Some other → k < count)
    → slice_get touches near.number ≡ Some touch → Tells touch stored → IsNearestOf touches place on byte count (Some near) → IsOnSide on touches place byte (Some stored)
told_side touches place on byte count near touch stored within at tells known =
    let same : known.0 ≡ touch = same_touch touches near.number known.0 touch known.1.at at in (
      near.number,
      near.distance,
      touch,
      subst (λ (t : Touch). IsAway touches place on byte near.number near.distance t) same known.1,
      λ k more other h. known.2 k more other (within k other h.at) h,
      tells,
    )

pub no_side :
    (touches : List Touch) (place : Location) (on : Side) (byte count : ℕ) → ((k : ℕ) (other : Touch) → slice_get touches k ≡ Some other → k < count)
    → IsNearestOf touches place on byte count None → IsOnSide on touches place byte None
no_side touches place on byte count within none = λ k distance other h. none k distance other (within k other h.at) h

-- a store's distance, and that of another access
pub distance_yes : (place : Location) (on : Side) (byte : ℕ) (touch : Touch) (found : Option ℕ) → Stores place touch → found ≡ away on byte touch.byte → IsDistance place on byte touch found
distance_yes place on byte touch None s e = λ _ distance far. let g : None ≡ Some distance = e ∙ far in absurd (not_some distance g)
  where
    not_some : (d : ℕ) → None ≡ Some d → ⊥
    not_some d h = cc
distance_yes place on byte touch (Some d) s e = (s, sym e)

pub distance_no : (place : Location) (on : Side) (byte : ℕ) (touch : Touch) → (Stores place touch → ⊥) → IsDistance place on byte touch None
distance_no place on byte touch not = λ s distance far. not s
