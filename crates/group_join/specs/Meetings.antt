-- The first access of a group that meets those of the lower groups (OpenCL 1.2, 3.3.1; own).
use Rattle.std.specs.Prelude.{◌≡◌, ℕ, ◌+◌, ◌<◌, ◌==◌, Bool, false, ◌&&◌, nat_lt, Option, None, Some, List, length, slice_get, if◌then◌else◌}
use Rattle.clmodel.specs.Launch.{Launch, location_of}
use Rattle.clmodel.specs.declared.access.Access.{Access}
use Rattle.clmodel.specs.declared.fault.Fault.{Fault}
use Rattle.clmodel.specs.declared.fault.Fault.TheVariants as fault
use Rattle.shadow.specs.Seen.{OfOthers, met_at}
use Rattle.shadow.specs.declared.seen.Meeting.{Meeting}
use Rattle.access_list.specs.declared.log.Entry.{Entry}
use Rattle.group_join.specs.declared.meetings.FirstConflict.{FirstConflict}

-- a meeting of an access as a fault (3.3.1, own in what it names)
abbrev pub meeting_fault : Launch → Access → Meeting → Fault
meeting_fault launch x met = fault.Conflict met.clash met.mark.item met.mark.kind x.item x.kind (location_of launch x.region) met.byte

-- a report of a conflict on a byte below this one (own)
abbrev pub is_below : Option Fault → ℕ → Bool
is_below (Some (fault.Conflict clash item kind other other_kind location own)) byte = nat_lt own byte
is_below _ byte = false

-- the entries are of other items than these accesses (own)
abbrev pub AreOthers : List Entry → List Access → Type 0
AreOthers entries kept = (k : ℕ) (e : Entry) → slice_get entries k ≡ Some e → OfOthers e.access.item kept

-- none of the first entries meets these accesses, by whether the launch is uniform (own)
abbrev pub MissUpTo : Bool → List Entry → List Access → ℕ → Type 0
MissUpTo uniform entries kept count =
    (k : ℕ) (e : Entry) → k < count → slice_get entries k ≡ Some e → met_at uniform e.access.region e.access kept ≡ None

-- the first of the entries that meets these accesses, if there is one, and whether it is the last of its group, which
-- is the last of them where `has_last` holds (own)
abbrev pub IsFirstMet : Bool → Bool → List Entry → List Access → Option FirstConflict → Type 0
IsFirstMet uniform has_last entries kept None = MissUpTo uniform entries kept (length entries)
IsFirstMet uniform has_last entries kept (Some met) =
    (k : ℕ) × (slice_get entries k ≡ Some met.entry) × MissUpTo uniform entries kept k
    × (met_at uniform met.entry.access.region met.entry.access kept ≡ Some met.meeting)
    × (met.last ≡ (has_last && (k + 1 == length entries)))

-- the report where an access meets those of the lower groups: the group's own, if the access is its last and it stopped
-- with a conflict on a lower byte, else the meeting (own)
abbrev pub report_at : Launch → FirstConflict → Option Fault → Option Fault
report_at launch met stopped = if met.last && is_below stopped met.meeting.byte then stopped else Some (meeting_fault launch met.entry.access met.meeting)
