-- Which bytes of an object were set beside one that is unset (own).
use Rattle.std.specs.Prelude.{◌≡◌, ◌<◌, ◌≤◌, ◌-◌, ℕ, nat_lt, Option, None, Some, List, slice_get, if◌then◌else◌}
use Rattle.std.specs.Option.{IfNone, IfSome}
use Rattle.clmodel.specs.declared.access.AccessKind.TheVariants as kind
use Rattle.clmodel.specs.declared.fault.Location.{Location}
use Rattle.explanation.specs.declared.reasons.StoredBytes.{StoredBytes}
use Rattle.fault_play.specs.declared.played.Touch.{Touch}
use Rattle.explain_reasons.specs.declared.unset.Near.{Near}
use Rattle.explain_reasons.specs.declared.unset.Side.{Side}
use Rattle.explain_reasons.specs.declared.unset.Side.TheVariants as side

-- how far a store that begins at this byte lies from a byte, if it lies on this side of it: below it, or not below it
abbrev pub away : Side → ℕ → ℕ → Option ℕ
away side.Below byte first = if nat_lt first byte then Some (byte - first) else None
away side.Above byte first = if nat_lt first byte then None else Some (first - byte)

-- an access is a store into an object
abbrev pub Stores : Location → Touch → Type 0
Stores place touch = (touch.kind ≡ kind.Store) × (touch.location ≡ place)

-- the access of a number is a store into an object, so far from a byte on a side of it
pub record IsAway (touches : List Touch) (place : Location) (on : Side) (byte number distance : ℕ) (touch : Touch) : Type 0 where
  pub at : slice_get touches number ≡ Some touch
  pub stores : Stores place touch
  pub far : away on byte touch.byte ≡ Some distance

-- the distance of an access from a byte, if it is a store into an object on a side of it
abbrev pub IsDistance : Location → Side → ℕ → Touch → Option ℕ → Type 0
IsDistance place on byte touch None = Stores place touch → (distance : ℕ) → away on byte touch.byte ≡ Some distance → ⊥
IsDistance place on byte touch (Some distance) = Stores place touch × (away on byte touch.byte ≡ Some distance)

-- of the first `count` accesses none is such a store, or this one is, and none of these is nearer
abbrev pub IsNearestOf : List Touch → Location → Side → ℕ → ℕ → Option Near → Type 0
IsNearestOf touches place on byte count None = (k distance : ℕ) (touch : Touch) → k < count → IsAway touches place on byte k distance touch → ⊥
IsNearestOf touches place on byte count (Some near) =
    (touch : Touch) × IsAway touches place on byte near.number near.distance touch
    × ((k distance : ℕ) (other : Touch) → k < count → IsAway touches place on byte k distance other → near.distance ≤ distance)

-- the nearer one of two, the earlier where both are as near
abbrev pub nearer : Option Near → ℕ → Option ℕ → Option Near
nearer known number None = known
nearer None number (Some distance) = Some (record { distance = distance; number = number })
nearer (Some near) number (Some distance) = if nat_lt distance near.distance then Some (record { distance = distance; number = number }) else Some near

-- the bytes of a store, and its item
pub record Tells (touch : Touch) (stored : StoredBytes) : Type 0 where
  pub byte : stored.byte ≡ touch.byte
  pub bytes : stored.bytes ≡ touch.bytes
  pub item : stored.item ≡ touch.item

-- the nearest store to a byte on a side of it; none, where nothing was stored there
abbrev pub IsOnSide : Side → List Touch → Location → ℕ → Option StoredBytes → Type 0
IsOnSide on touches place byte None = (k distance : ℕ) (touch : Touch) → IsAway touches place on byte k distance touch → ⊥
IsOnSide on touches place byte (Some stored) =
    (number distance : ℕ) × (touch : Touch) × IsAway touches place on byte number distance touch
    × ((k more : ℕ) (other : Touch) → IsAway touches place on byte k more other → distance ≤ more) × Tells touch stored
