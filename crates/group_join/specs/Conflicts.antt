-- The conflict of one access of a group with those of the lower groups (OpenCL 1.2, 3.3.1; own).
use Rattle.std.specs.Prelude.{ℕ, ◌+◌, ◌==◌, Bool, ◌&&◌, Option, List, length}
use Rattle.std.specs.Option.{option_map}
use Rattle.clmodel.specs.declared.access.Access.{Access}
use Rattle.shadow.specs.Seen.{met_at}
use Rattle.access_list.specs.declared.log.Entry.{Entry}
use Rattle.group_join.specs.declared.meetings.FirstConflict.{FirstConflict}

-- how the entry at a place meets these accesses, if it does, and whether it is the last of its group, which is the last
-- of the entries where `has_last` holds (own)
abbrev pub conflict_at : Bool → Bool → List Entry → List Access → ℕ → Entry → Option FirstConflict
conflict_at uniform has_last entries kept place e =
    option_map (λ met. record { entry = e; meeting = met; last = has_last && (place + 1 == length entries) }) (met_at uniform e.access.region e.access kept)
