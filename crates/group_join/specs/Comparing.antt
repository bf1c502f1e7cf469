-- What one walk of a further group's accesses finds (own, on OpenCL 1.2, 3.3.1 and 6.12.11).
use Rattle.std.specs.Prelude.{ℕ, Option, None, Some, List, [], ◌∷◌, ◌++◌}
use Rattle.clmodel.specs.declared.access.Access.{Access}
use Rattle.access_list.specs.declared.log.Entry.{Entry}
use Rattle.group_join.specs.Changes.{AreUpdates}
use Rattle.group_join.specs.declared.changes.JoinedUpdate.{JoinedUpdate}
use Rattle.group_join.specs.declared.comparing.Compared.{Compared}
use Rattle.group_join.specs.declared.comparing.Compared.TheVariants.{Conflict, Apart}
use Rattle.group_join.specs.declared.meetings.FirstConflict.{FirstConflict}

-- the first access that conflicts, if there is one (own)
abbrev pub met_of : Compared → Option FirstConflict
met_of (Conflict met) = Some met
met_of (Apart updates) = None

-- where none conflicts, the updates are what is kept of these accesses before any change (own)
abbrev pub KeepsUpdates : (ℕ → Access → ℕ → ℕ) → List (List (Option ℕ)) → List Entry → Compared → Type 0
KeepsUpdates value own entries (Conflict met) = Unit {0}
KeepsUpdates value own entries (Apart updates) = AreUpdates value own 0 entries updates.items

-- updates with that of the access at a place, if something is kept of it (own)
abbrev pub with_update : List JoinedUpdate → ℕ → Option ℕ → List JoinedUpdate
with_update updates place None = updates
with_update updates place (Some value) = updates ++ record { place = place; value = value } ∷ []
