-- Which events of a schedule are told (own).
use Rattle.std.specs.Prelude.{◌≡◌, ◌<◌, ◌≤◌, ◌+◌, ◌||◌, ◌⊎◌, ℕ, Bool, true, false, cond, count_by, Option, None, Some, List, [], ◌∷◌, slice_get}
use Rattle.clmodel.specs.declared.access.AccessKind.{AccessKind}
use Rattle.clmodel.specs.declared.access.AccessKind.TheVariants as kind
use Rattle.clmodel.specs.declared.fault.Location.{Location}
use Rattle.clmodel.specs.declared.schedule.Event.{Event}
use Rattle.clmodel.specs.declared.schedule.Event.TheVariants as event
use Rattle.explain_items.specs.Deeds.{is_release_of}
use Rattle.fault_play.specs.PlayedOut.{is_access, is_event_of}
use Rattle.fault_play.specs.declared.marks.Mark.{Mark}
use Rattle.fault_play.specs.declared.played.Touch.{Touch}
use Rattle.explain_steps.specs.declared.chosen.Followed.{Followed}

-- the access of an event, where the next one is this
abbrev pub access_of : Event → Option Touch → Option Touch
access_of (event.Item item) next = next
access_of (event.Release group) next = None

-- the events with their accesses, of which so many were made before
abbrev pub events_made : ℕ → List Mark → List Touch → List (Mark × Option Touch)
events_made before [] touches = []
events_made before (mark ∷ marks) touches =
    (mark, access_of mark.event (slice_get touches before)) ∷ events_made (before + cond (is_access mark.event) 1 0) marks touches

-- what an access does with the bytes: it gives them to its item; it writes them
abbrev pub gives : AccessKind → Bool
gives kind.Load = true
gives kind.Store = false
gives (kind.Update class) = false
gives kind.Fetch = true

abbrev pub writes : AccessKind → Bool
writes kind.Load = false
writes kind.Store = true
writes (kind.Update class) = true
writes kind.Fetch = true

-- an access touches a byte of an object
pub record IsOn (place : Location) (byte : ℕ) (touch : Touch) : Type 0 where
  pub there : touch.location ≡ place
  pub from : touch.byte ≤ byte
  pub to : byte < touch.byte + touch.bytes

-- an event of one of the two items; a release of the group of one of them
abbrev pub is_theirs : Followed → Event → Bool
is_theirs followed e = is_event_of followed.first e || is_event_of followed.second e

abbrev pub frees_them : Followed → Event → Bool
frees_them followed e = is_release_of followed.first_group e || is_release_of followed.second_group e

-- an event gives a byte to one of the two items; an event writes a byte
abbrev pub Gives : Followed → Location → ℕ → Mark → Option Touch → Type 0
Gives followed place byte mark None = ⊥
Gives followed place byte mark (Some touch) = (is_theirs followed mark.event ≡ true) × (gives touch.kind ≡ true) × IsOn place byte touch

abbrev pub Writes : Location → ℕ → Option Touch → Type 0
Writes place byte None = ⊥
Writes place byte (Some touch) = (writes touch.kind ≡ true) × IsOn place byte touch

-- of these events one gives a byte to one of the two items, and none before it writes it
abbrev pub IsAwaited : Followed → List (Mark × Option Touch) → Location → ℕ → Type 0
IsAwaited followed [] place byte = ⊥
IsAwaited followed (made ∷ later) place byte = Gives followed place byte made.0 made.1 ⊎ ((Writes place byte made.1 → ⊥) × IsAwaited followed later place byte)

-- an access writes a byte that one of the two items is given later, and no event between them writes it
abbrev pub IsGiven : Followed → Touch → List (Mark × Option Touch) → Type 0
IsGiven followed touch later = (place : Location) × (byte : ℕ) × Writes place byte (Some touch) × IsAwaited followed later place byte

-- An event in front of these is wanted: a release of the group of one of the two items, an access of theirs, or one
-- that writes what one of them is given.
abbrev pub IsWanted : Followed → Mark → Option Touch → List (Mark × Option Touch) → Type 0
IsWanted followed mark None later = frees_them followed mark.event ≡ true
IsWanted followed mark (Some touch) later = (is_theirs followed mark.event ≡ true) ⊎ IsGiven followed touch later

-- The events that are told are wanted; and one that is wanted is left out only where so many are told behind it.
abbrev pub AreChosen : Followed → ℕ → List (Mark × Option Touch) → List Bool → Type 0
AreChosen followed most [] told = told ≡ []
AreChosen followed most (made ∷ later) [] = ⊥
AreChosen followed most (made ∷ later) (true ∷ told) = IsWanted followed made.0 made.1 later × AreChosen followed most later told
AreChosen followed most (made ∷ later) (false ∷ told) = (IsWanted followed made.0 made.1 later → count_by (λ b. b) told ≡ most) × AreChosen followed most later told
