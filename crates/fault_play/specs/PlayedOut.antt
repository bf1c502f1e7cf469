-- What a schedule came to that was played (own).
use Rattle.std.specs.Prelude.{◌≡◌, ◌<◌, ◌==◌, ℕ, Bool, true, false, Option, None, Some, List, count_by, map, reverse, slice_get, take}
use Rattle.std.specs.Bool.{Decides}
use Rattle.std.specs.Option.{is_some, option_map_or}
use Rattle.clmodel.specs.Cells.{byte_count}
use Rattle.clmodel.specs.Launch.{Launch, location_of}
use Rattle.clmodel.specs.Law.{Shows}
use Rattle.clmodel.specs.Run.{State, Events, start}
use Rattle.clmodel.specs.declared.access.Access.{Access}
use Rattle.clmodel.specs.declared.fault.Fault.{Fault}
use Rattle.clmodel.specs.declared.schedule.Event.{Event}
use Rattle.clmodel.specs.declared.schedule.Event.TheVariants as event
use Rattle.item_step.specs.Running.{Running}
use Rattle.fault_play.specs.Marks.{ActsFrom, Divides, Lead, events_in}
use Rattle.replay.specs.Spots.{Finds, IsPairOf, is_conflict}
use Rattle.fault_play.specs.declared.marks.Mark.{Mark}
use Rattle.fault_play.specs.declared.played.Played.{Played}
use Rattle.fault_play.specs.declared.played.Touch.{Touch}

-- an access as it is told (own)
abbrev pub touch_of : Launch → Access → Touch
touch_of launch access =
    record {
      item = access.item;
      kind = access.kind;
      location = location_of launch access.region;
      byte = access.first;
      bytes = byte_count access.width;
    }

-- an event makes an access: that of an item (own)
abbrev pub is_access : Event → Bool
is_access (event.Item item) = true
is_access (event.Release group) = false

-- the event of this number made the access of that number, both from 0 (own)
pub record MadeAccess (marks : List Mark) (access number : ℕ) : Type 0 where
  pub mark : Mark
  pub at : slice_get marks number ≡ Some mark
  pub makes : is_access mark.event ≡ true
  pub counted : count_by (λ mark. is_access mark.event) (take number marks) ≡ access

-- the event of this number is one of an item (own)
pub record IsEventOf (marks : List Mark) (item number : ℕ) : Type 0 where
  pub mark : Mark
  pub at : slice_get marks number ≡ Some mark
  pub is : mark.event ≡ event.Item item

-- an event is one of an item (own)
abbrev pub is_event_of : ℕ → Event → Bool
is_event_of item (event.Item other) = other == item
is_event_of item (event.Release group) = false

-- the event of a number is one of an item (own)
abbrev pub acts_at : List Mark → ℕ → ℕ → Bool
acts_at marks item number = option_map_or (λ mark. is_event_of item mark.event) (slice_get marks number) false

-- the last number below n of which p holds, if it holds of any: that of the last event of an item (own)
abbrev pub IsLastEvent : (ℕ → Bool) → ℕ → Option ℕ → Type 0
IsLastEvent p n None = (k : ℕ) → k < n → p k ≡ false
IsLastEvent p n (Some last) = (last < n) × (p last ≡ true) × ((k : ℕ) → last < k → k < n → p k ≡ false)

-- The events were played from the start to a state, each with where its item stands that acts by it, and with the
-- numbers that its access finds and leaves. The first accesses of the log there are told. Where the fault is a
-- conflict, two accesses are found exactly where the state shows it; they are in the log, and are those of the fault.
-- Each of the two named items acts from where it is told to stand, and the first has the left operand that is told, if
-- it stands at a division (own).
pub record IsPlayedOut (launch : Launch) (started : ℕ → Running) (size : ℕ) (events : Events) (f : Fault) (first second most : ℕ) (played : Played) : Type 0 where
  pub end : State
  pub marked : events_in played.marks.items ≡ events
  pub led : Lead launch started size (start launch) played.marks.items end
  pub touched : played.touches.items ≡ map (touch_of launch) (take most (reverse end.log))
  pub paired : Finds played.pair (IsPairOf launch f (reverse end.log))
  pub shown : is_conflict f ≡ true → Decides (is_some played.pair) (Shows launch end f)
  pub first_named : played.first.item ≡ first
  pub second_named : played.second.item ≡ second
  pub first_acts : ActsFrom launch started end first played.first.stand
  pub second_acts : ActsFrom launch started end second played.second.stand
  pub first_divides : Divides launch started end first played.first.dividend
