-- Conflicts of a group's accesses with those of the lower groups (OpenCL 1.2, 3.3.1; own).
use Rattle.std.specs.Prelude.{◌≡◌, ℕ, zero, suc, if◌then◌else◌, nat_le, Option, None, Some, List, [], ◌∷◌, ◌++◌}
use Rattle.std.specs.Option.{option_map}
use Rattle.clmodel.specs.Cells.{byte_count}
use Rattle.clmodel.specs.Launch.{Launch, conflict}
use Rattle.clmodel.specs.Run.{Events, or_else}
use Rattle.clmodel.specs.Law.{conflict_from}
use Rattle.clmodel.specs.declared.access.Access.{Access}
use Rattle.clmodel.specs.declared.access.Clash.{Clash}
use Rattle.clmodel.specs.declared.access.Conflict as conflict_type
use Rattle.clmodel.specs.declared.schedule.Event.TheVariants.{Item, Release}

-- a group's log up to and with its first access that conflicts with one of the lower groups, the newest first: its
-- first crossing (own)
abbrev pub crossing : Launch → List Access → List Access → Option (List Access)
crossing launch lower [] = None
crossing launch lower (x ∷ earlier) =
    or_else (crossing launch lower earlier) (option_map (λ _. x ∷ earlier) (conflict_from (conflict launch) x lower x.first (byte_count x.width)))

-- the events up to and with the given number of accesses (own)
abbrev pub up_to : ℕ → Events → Events
up_to zero events = []
up_to (suc count) [] = []
up_to (suc count) (Item item ∷ events) = Item item ∷ up_to count events
up_to (suc count) (Release group ∷ events) = Release group ∷ up_to (suc count) events

-- of the conflicts of one access, the one on the lower byte, and on one byte that with the lower groups (own)
abbrev pub lower_first : Option conflict_type.Conflict → Option conflict_type.Conflict → Option conflict_type.Conflict
lower_first None own = own
lower_first (Some lower) None = Some lower
lower_first (Some lower) (Some own) = if nat_le lower.byte own.byte then Some lower else Some own

-- an access's conflict with all accesses before it is the first of that with the lower groups and that with its own
-- (own)
abbrev pub LowerFirst : Type 0
LowerFirst =
    (judge : Access → Access → ℕ → Option Clash) (x : Access) (own lower : List Access) (byte count : ℕ)
    → conflict_from judge x (own ++ lower) byte count ≡ lower_first (conflict_from judge x lower byte count) (conflict_from judge x own byte count)
