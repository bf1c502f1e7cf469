-- What an item does next, by its kind (3.2).
use Rattle.std.specs.Prelude.{◌≡◌, ℕ, ◌<◌, true, Option, None, Some}
use Rattle.clmodel.specs.Cells.{lowest_unset, reads, size_of}
use Rattle.clmodel.specs.Launch.{Launch, group_of, region_of}
use Rattle.clmodel.specs.Run.{State, byte_at, next_action, stop_of}
use Rattle.clmodel.specs.declared.action.Action.{Action}
use Rattle.clmodel.specs.declared.action.Action.TheVariants.{Access, Barrier, End, Fault}
use Rattle.clmodel.specs.declared.action.Cause.{Cause}
use Rattle.clmodel.specs.declared.action.Stop.{Stop}
use Rattle.replay.specs.declared.nexts.NextAccess.{NextAccess}

-- the access that an action is, if it is one
abbrev pub access_of : Action → Option NextAccess
access_of (Access object element operation) = Some (record { object = object; element = element; operation = operation })
access_of (Barrier _ _) = None
access_of End = None
access_of (Fault _) = None

-- why an item can do nothing more whose action this is, if it can't
abbrev pub cause_of : Action → Option Cause
cause_of (Access _ _ _) = None
cause_of (Barrier _ _) = None
cause_of End = None
cause_of (Fault cause) = Some cause

-- what an action of an item has next, if there is the item and its action has it
abbrev pub TellsNext : {A : Type 0} → (Action → Option A) → Launch → State → ℕ → Option A → Type 0
TellsNext part launch state item None = item < launch.items → part (next_action launch state item) ≡ None
TellsNext part launch state item (Some found) = (item < launch.items) × (part (next_action launch state item) ≡ Some found)

-- an item waits at this stop (6.12.8)
abbrev pub StopsAt : Launch → State → ℕ → Stop → Type 0
StopsAt launch state item stop = (item < launch.items) × (stop_of (next_action launch state item) ≡ Some stop)

-- an access of an item is in range and reads unset bytes, of which this is the lowest (C99 6.7.8)
abbrev pub ReadsUnset : Launch → State → ℕ → NextAccess → ℕ → Type 0
ReadsUnset launch state item next byte =
    (first : ℕ) × (byte_at launch item next.object next.element next.operation ≡ Some first) × (reads next.operation ≡ true)
    × (lowest_unset (state.memory (region_of (group_of launch item) next.object)) first (size_of next.operation) ≡ Some byte)
