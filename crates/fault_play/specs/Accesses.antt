-- The access that an item makes next (own; accesses and memory are those of OpenCL 1.2, section 3.3).
use Rattle.std.specs.Prelude.{◌≡◌, ◌+◌, ◌<◌, ◌≤◌, ℕ, ℤ, Option, Some}
use Rattle.clmodel.specs.Cells.{number, size_of}
use Rattle.clmodel.specs.Launch.{Launch, bytes_of, group_of, region_of}
use Rattle.clmodel.specs.Run.{State, Memory, byte_at, next_action}
use Rattle.clmodel.specs.declared.access.Region.{Region}
use Rattle.clmodel.specs.declared.action.Action.TheVariants as action
use Rattle.clmodel.specs.declared.schedule.Event.{Event}
use Rattle.clmodel.specs.declared.schedule.Event.TheVariants as event
use Rattle.fault_play.specs.declared.marks.PendingAccess.{PendingAccess}

-- the region of an access
abbrev pub region_at : Launch → PendingAccess → Region
region_at launch access = region_of (group_of launch access.item) access.object

-- the launch has the item of an access, and the object has its bytes
abbrev pub IsInside : Launch → PendingAccess → Type 0
IsInside launch access = (access.item < launch.items) × (access.first + size_of access.operation ≤ bytes_of launch (region_at launch access))

-- an access is what an item does next
pub record IsNext (launch : Launch) (state : State) (item : ℕ) (access : PendingAccess) : Type 0 where
  pub by_item : access.item ≡ item
  pub inside : IsInside launch access
  pub element : ℤ
  pub acts : next_action launch state item ≡ action.Access access.object element access.operation
  pub begins : byte_at launch item access.object element access.operation ≡ Some access.first

-- an access is what the item of an event does next
abbrev pub IsAbout : Launch → State → Event → PendingAccess → Type 0
IsAbout launch state e access = (e ≡ event.Item access.item) × IsNext launch state access.item access

-- the number that a memory has at the bytes of an access, of which there is one (C99 6.2.6.1)
abbrev pub HasNumber : Launch → Memory → Option PendingAccess → ℕ → Type 0
HasNumber launch memory found x =
    (access : PendingAccess) × (found ≡ Some access) × (number (memory (region_at launch access)) access.first (size_of access.operation) ≡ Some x)
