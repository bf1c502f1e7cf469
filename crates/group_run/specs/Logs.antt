-- What a program's log of a group's accesses holds (own, on OpenCL 1.2, 3.3.1).
use Rattle.std.specs.Prelude.{◌≡◌, ℕ, ◌+◌, Option, List, [], ◌∷◌, length, map, reverse, if◌then◌else◌, Ok}
use Rattle.std.specs.Option.{option_map}
use Rattle.clmodel.specs.Launch.{Launch, group_of}
use Rattle.clmodel.specs.Law.{Keeps, conflict_fault}
use Rattle.clmodel.specs.Run.{State, Events}
use Rattle.clmodel.specs.declared.access.Access.{Access}
use Rattle.clmodel.specs.declared.access.Conflict as conflict_type
use Rattle.clmodel.specs.declared.action.Fences.{Fences}
use Rattle.clmodel.specs.declared.fault.Fault.{Fault}
use Rattle.clmodel.specs.declared.schedule.Event.TheVariants as event
use Rattle.access_list.specs.Log.{Log, IsKept, IsNoted}
use Rattle.access_list.specs.declared.log.Entry.{Entry}
use Rattle.access_list.specs.declared.log.Hit.{Hit}
use Rattle.joining.specs.Group.{Plan}

-- the accesses of a program's log, the newest first
abbrev pub accesses_of : List Entry → List Access
accesses_of entries = map (λ e. e.access) (reverse entries)

-- a conflict that a program's log finds, without the numbers of events
abbrev pub conflict_of : Hit → conflict_type.Conflict
conflict_of hit = record { earlier = hit.earlier.access; later = hit.later.access; byte = hit.byte; clash = hit.clash }

-- all entries are accesses of this group's items (OpenCL 1.2, 3.2)
abbrev pub AreMine : Launch → ℕ → List Entry → Type 0
AreMine launch group [] = Unit {0}
AreMine launch group (y ∷ entries) = (group_of launch y.access.item ≡ group) × AreMine launch group entries

-- the accesses of a run with the numbers of their events, where the newest access and the newest event stand first
abbrev pub numbered : Events → List Access → List Entry
numbered [] accesses = []
numbered (event.Release group ∷ events) accesses = numbered events accesses
numbered (event.Item item ∷ events) [] = []
numbered (event.Item item ∷ events) (x ∷ accesses) = record { access = x; event = length events } ∷ numbered events accesses

-- a log that was given these accesses, here the newest first: each is kept at its end, unless it was there
abbrev pub Notes : List Entry → List Entry → Type 0
Notes [] kept = kept ≡ []
Notes (x ∷ made) kept = (old : List Entry) × Notes made old × IsKept old x kept

-- what a program's log leaves of a new access, and the fault that it reports of it
abbrev pub IsJudged : Launch → Log → Entry → Log → Option Fault → Type 0
IsJudged launch old entry new fault =
    (found : Option Hit) × IsNoted old entry new (Ok found) × (fault ≡ option_map (λ hit. conflict_fault launch (conflict_of hit)) found)

-- a program's log once a barrier with these fences is passed (OpenCL 1.2, 6.12.8)
abbrev pub after_fences : Log → Fences → Log
after_fences log fences =
    record {
      accesses = log.accesses;
      local_interval = if fences.local then log.local_interval + 1 else log.local_interval;
      global_interval = if fences.global then log.global_interval + 1 else log.global_interval;
      uniform = log.uniform;
    }

-- a program's log after these events of a group, which lead to a state
pub record IsLogged (plan : Plan) (log : Log) (events : Events) (state : State) : Type 0 where
  pub keeps : Keeps state.log (accesses_of log.accesses)
  pub noted : Notes (numbered (reverse events) state.log) log.accesses
  pub mine : AreMine plan.launch plan.group log.accesses
  pub local_interval : log.local_interval ≡ state.local_interval plan.group
  pub global_interval : log.global_interval ≡ state.global_interval plan.group
  pub uniform : log.uniform ≡ plan.launch.uniform
