-- Where the accesses lie that a fault tells of (own).
use Rattle.std.specs.Prelude.{◌≡◌, ℕ, ◌<◌, ◌==◌, ◌&&◌, ◌||◌, not, Bool, true, false, Option, None, Some, List, MatchOption, if◌then◌else◌, slice_get}
use Rattle.clmodel.specs.Cells.{byte_count, covers}
use Rattle.clmodel.specs.Launch.{Launch, conflict, location_of, left_at}
use Rattle.clmodel.specs.declared.access.Access.{Access}
use Rattle.clmodel.specs.declared.access.AccessKind.{AccessKind}
use Rattle.clmodel.specs.declared.access.Region.{Region}
use Rattle.clmodel.specs.declared.access.Region.TheVariants as region
use Rattle.clmodel.specs.declared.access.Rule.{Rule}
use Rattle.clmodel.specs.declared.fault.Fault.{Fault}
use Rattle.clmodel.specs.declared.fault.Fault.TheVariants as fault
use Rattle.clmodel.specs.declared.fault.Location.{Location}
use Rattle.clmodel.specs.declared.fault.Location.TheVariants as location
use Rattle.replay.specs.declared.conflicts.Firsts.{Firsts}
use Rattle.replay.specs.declared.conflicts.ObjectInterval.{ObjectInterval}
use Rattle.replay.specs.declared.conflicts.Pair.{Pair}
use Rattle.replay.specs.declared.conflicts.ToldConflict.{ToldConflict}

-- a fault tells of two accesses that conflict
abbrev pub is_conflict : Fault → Bool
is_conflict (fault.Conflict _ _ _ _ _ _ _) = true
is_conflict _ = false

-- two spots are one
abbrev pub same_spot : ObjectInterval → ObjectInterval → Bool
same_spot a b = (a.number == b.number) && (a.interval == b.interval)

-- the fault of a conflict that is told
abbrev pub fault_told : ToldConflict → Fault
fault_told told =
    fault.Conflict told.clash told.first.item told.first.kind told.second.item told.second.kind told.place.location.now told.place.byte

-- a byte that an access left is another than this, if bytes matter
abbrev pub is_other : Bool → ℕ → ℕ → Bool
is_other by_byte byte left = not by_byte || not (byte == left)

-- the place of the first access of a spot that left another byte than this, if bytes matter, where this is known of it
abbrev pub partner_at : Bool → Option Firsts → ℕ → Option ℕ
partner_at by_byte None left = None
partner_at by_byte (Some firsts) left = if is_other by_byte firsts.byte left then Some firsts.place else firsts.other

-- such a one was found, or there is none
abbrev pub Finds : {A : Type 0} → Option A → (A → Type 0) → Type 0
Finds {A} found IsSuch = MatchOption found ((a : A) → IsSuch a → ⊥) IsSuch

-- the number of a region's object, where a location of its kind and group is told
abbrev pub number_in : Location → Region → Option ℕ
number_in (location.Buffer name) (region.Buffer number) = Some number
number_in (location.Buffer name) (region.Local group number) = None
number_in (location.Local told name) (region.Buffer number) = None
number_in (location.Local told name) (region.Local group number) = if group == told then Some number else None

-- an access is of this item and kind and at this byte, and lies here: the number of its object, and its interval where
-- one is asked for, else 0
pub record IsSpot (item : ℕ) (kind : AccessKind) (place : Location) (byte : ℕ) (one_group : Bool) (x : Access) (spot : ObjectInterval) : Type 0 where
  pub of_item : x.item ≡ item
  pub of_kind : x.kind ≡ kind
  pub on_byte : covers x.first (byte_count x.width) byte ≡ true
  pub numbered : number_in place x.region ≡ Some spot.number
  pub in_interval : (if one_group then x.interval else 0) ≡ spot.interval

-- the access at this place is such an access among the first of a log, and left another byte than this, if the rule
-- asks for bytes
abbrev pub IsOther : ℕ → AccessKind → Location → ℕ → Rule → List Access → ℕ → ObjectInterval → ℕ → ℕ → Type 0
IsOther item kind place byte rule log count spot left k =
    (x : Access) × (k < count) × (slice_get log k ≡ Some x) × IsSpot item kind place byte rule.one_group x spot × (rule.uniform ≡ true → left_at x byte ≡ left → ⊥)

-- an access is such an access at the told location, and conflicts with the access at this place, which `among` gives
-- for its spot and the byte that it left
abbrev pub Meets : Launch → ℕ → AccessKind → Location → ℕ → Rule → (ObjectInterval → ℕ → Option ℕ) → Access → ℕ → Type 0
Meets launch item kind place byte rule among x k =
    (spot : ObjectInterval) × (among spot (left_at x byte) ≡ Some k) × IsSpot item kind place byte rule.one_group x spot × (location_of launch x.region ≡ place)

-- the second access of a pair of places is such an access, and conflicts with the first
abbrev pub MeetAt : Launch → ℕ → AccessKind → Location → ℕ → Rule → (ObjectInterval → ℕ → Option ℕ) → List Access → Pair → Type 0
MeetAt launch item kind place byte rule among log pair =
    (x : Access) × (slice_get log pair.second ≡ Some x) × Meets launch item kind place byte rule among x pair.first

-- the accesses at two places of a log are those of which a fault tells that they conflict (3.3.1, 6.12.8)
abbrev pub IsPairOf : Launch → Fault → List Access → Pair → Type 0
IsPairOf launch (fault.Conflict clash item kind other other_kind place byte) log pair =
    (x y : Access) × (slice_get log pair.first ≡ Some x) × (slice_get log pair.second ≡ Some y) × (x.item ≡ item) × (x.kind ≡ kind) × (y.item ≡ other)
    × (y.kind ≡ other_kind) × (location_of launch x.region ≡ place) × (conflict launch x y byte ≡ Some clash)
IsPairOf launch _ log pair = ⊥
