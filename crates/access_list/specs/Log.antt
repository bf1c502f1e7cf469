-- Access logs: what is kept of the accesses of a group's work-items, and which of them conflict (OpenCL 1.2, 3.3.1,
-- 6.12.8; own in the log).
use Rattle.std.specs.Prelude.{◌≡◌, ℕ, zero, suc, ◌+◌, ◌<◌, ◌^◌, ◌⊎◌, Bool, true, false, Option, None, List, [], ◌∷◌, ◌++◌, Result, Ok, Err, if◌then◌else◌}
use Rattle.std.specs.Option.{option_map}
use Rattle.std.specs.declared.alloc.AllocError.{AllocError}
use Rattle.clmodel.specs.Cells.{byte_count}
use Rattle.clmodel.specs.Launch.{access_in, within_group, across_groups, conflict_between}
use Rattle.clmodel.specs.Run.{or_else, by_region}
use Rattle.clmodel.specs.declared.access.Access.{Access}
use Rattle.clmodel.specs.declared.access.Region.{Region}
use Rattle.clmodel.specs.declared.access.Region.TheVariants as region
use Rattle.clmodel.specs.declared.access.Operation.{Operation}
use Rattle.clmodel.specs.declared.access.Rule.{Rule}
use Rattle.access_list.specs.declared.log.Entry.{Entry}
use Rattle.access_list.specs.declared.log.Hit.{Hit}
use Rattle.access_list.specs.declared.log.Fenced.{Fenced}
use Rattle.access_list.specs.declared.log.Fenced.TheVariants as fenced

-- the accesses, the oldest first, how many barriers the group has passed that fenced local and that fenced global
-- memory (6.12.8, own), and whether the launch is uniform (own)
pub record Log : Type 0 where
  pub accesses : List Entry
  pub local_interval : ℕ
  pub global_interval : ℕ
  pub uniform : Bool

-- what a log is given of an item's operation at the bytes from `first` on: it gives the access its interval itself
-- (own)
abbrev pub entry_of : ℕ → Region → ℕ → Operation → ℕ → Entry
entry_of item region first operation event = record { access = access_in item region first operation 0; event = event }

-- an access as it is kept: with the running interval of its address space (6.12.8)
abbrev pub stamped : Log → Entry → Entry
stamped log x = record x { access = record x.access { interval = by_region x.access.region log.global_interval log.local_interval } }

-- how the earlier of two accesses conflicts with the later on a byte by their rule, if they do (3.3.1)
abbrev pub hit_between : Rule → Entry → Entry → ℕ → Option Hit
hit_between rule y x byte =
    option_map (λ clash. record { clash = clash; earlier = y; later = x; byte = byte }) (conflict_between rule y.access x.access byte)

-- the conflict of an access on a byte with the earliest that has one (own in which)
abbrev pub hit_on : Rule → Entry → ℕ → List Entry → Option Hit
hit_on rule x byte [] = None
hit_on rule x byte (y ∷ log) = or_else (hit_between rule y x byte) (hit_on rule x byte log)

-- the same on the lowest of n bytes (own)
abbrev pub hit_from : Rule → Entry → List Entry → ℕ → ℕ → Option Hit
hit_from rule x log byte zero = None
hit_from rule x log byte (suc count) = or_else (hit_on rule x byte log) (hit_from rule x log (suc byte) count)

-- the conflict of an access with a log: on its lowest byte that has one, there with the earliest access (3.3.1, own in
-- which)
unfoldable pub hit : Rule → Entry → List Entry → Option Hit
hit rule x log = hit_from rule x log x.access.first (byte_count x.access.width)

-- an access is in a log, whatever the number of its event (own)
abbrev pub IsThere : List Entry → Access → Type 0
IsThere [] x = ⊥
IsThere (y ∷ log) x = (y.access ≡ x) ⊎ IsThere log x

-- a log once an access is made: it is at the end, or left out where it is there (own)
abbrev pub IsKept : List Entry → Entry → List Entry → Type 0
IsKept log x new = (IsThere log x.access × (new ≡ log)) ⊎ (new ≡ log ++ x ∷ [])

-- the same where it stands there once, whatever the number of its event (own)
abbrev pub IsKeptOnce : List Entry → Entry → List Entry → Type 0
IsKeptOnce log x new = (IsThere log x.access × (new ≡ log)) ⊎ ((IsThere log x.access → ⊥) × (new ≡ log ++ x ∷ []))

-- what a new access leaves of the log of its group, and the conflict that it answers (3.3.1, 6.12.8, own in what is
-- kept)
abbrev pub IsNoted : Log → Entry → Log → Result (Option Hit) AllocError → Type 0
IsNoted old x new (Ok found) =
    (found ≡ hit (within_group old.uniform) (stamped old x) old.accesses) × IsKept old.accesses (stamped old x) new.accesses
    × (new.local_interval ≡ old.local_interval) × (new.global_interval ≡ old.global_interval) × (new.uniform ≡ old.uniform)
IsNoted old x new (Err _) = new ≡ old

-- the number of the running interval of an address space (6.12.8)
abbrev pub running : Log → Fenced → ℕ
running log fenced.Local = log.local_interval
running log fenced.Global = log.global_interval

-- the log once a barrier that fences an address space is passed (6.12.8)
abbrev pub after_fence : Log → Fenced → Log
after_fence log fenced.Local = record log { local_interval = log.local_interval + 1 }
after_fence log fenced.Global = record log { global_interval = log.global_interval + 1 }

-- whether a region is a buffer (5.2.1)
abbrev pub in_buffer : Region → Bool
in_buffer (region.Buffer number) = true
in_buffer (region.Local group number) = false

-- the conflict of the first access of another group's log that has one with a log: only buffers are shared between
-- groups (6.5.2)
abbrev pub across : Bool → List Entry → List Entry → Option Hit
across uniform log [] = None
across uniform log (x ∷ later) = or_else (if in_buffer x.access.region then hit (across_groups uniform) x log else None) (across uniform log later)

-- its bytes are numbers of 64 bits (own)
abbrev pub IsPlaced : Entry → Type 0
IsPlaced x = x.access.first + byte_count x.access.width < 2 ^ 64

-- a log by its parts (own)
abbrev pub logged : List Entry → ℕ → ℕ → Bool → Log
logged accesses local_interval global_interval uniform =
    record { accesses = accesses; local_interval = local_interval; global_interval = global_interval; uniform = uniform }

-- the log of a group that has made no access and passed no barrier, in a launch that is uniform or not (own)
abbrev pub fresh_log : Bool → Log
fresh_log = logged [] 0 0
