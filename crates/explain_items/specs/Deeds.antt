-- What the items of a fault do, and the numbers of their events (own; the faults' accesses and stops are those of their
-- lines).
use Rattle.std.specs.Prelude.{◌≡◌, ◌==◌, ◌≤◌, ◌+◌, ℕ, Bool, false, Option, None, Some, List, [], ◌∷◌, count_by}
use Rattle.std.specs.List.{AllZip}
use Rattle.std.specs.Option.{option_map_or}
use Rattle.clmodel.specs.declared.access.AccessKind.{AccessKind}
use Rattle.clmodel.specs.declared.action.Stop.{Stop}
use Rattle.clmodel.specs.declared.action.Stop.TheVariants as stop
use Rattle.clmodel.specs.declared.fault.Fault.{Fault}
use Rattle.clmodel.specs.declared.fault.Fault.TheVariants as fault
use Rattle.clmodel.specs.declared.schedule.Event.{Event}
use Rattle.clmodel.specs.declared.schedule.Event.TheVariants as event
use Rattle.explanation.specs.declared.told.Does.{Does}
use Rattle.explanation.specs.declared.told.Does.TheVariants as does
use Rattle.explanation.specs.declared.told.NamedItem.{NamedItem}
use Rattle.fault_play.specs.PlayedOut.{MadeAccess, is_access}
use Rattle.fault_play.specs.declared.marks.Mark.{Mark}
use Rattle.fault_play.specs.declared.played.Played.{Played}
use Rattle.explain_items.specs.Named.{AtAccess, AtEnd, AtStand, Site, in_order}

-- an event is the release of a group
abbrev pub is_release_of : ℕ → Event → Bool
is_release_of group (event.Item item) = false
is_release_of group (event.Release other) = other == group

-- what an item does: it makes an access of a kind, waits at a barrier in these turns of the loops round it, has ended,
-- or can't go on
pub data Deed : Type 0 where
  Accesses : AccessKind → Deed
  WaitsAt : ℕ → List ℕ → Deed
  HasEnded : Deed
  Fails : Deed

abbrev pub deed_of : Does → Deed
deed_of (does.Access kind) = Accesses kind
deed_of (does.Waits barrier turns) = WaitsAt barrier turns.items
deed_of does.Ended = HasEnded
deed_of does.Fails = Fails

-- an item at a stop waits there for the others of its group, or has ended (OpenCL 1.2, section 6.12.8)
abbrev pub stop_deed : Stop → Deed
stop_deed (stop.At instance) = WaitsAt instance.site instance.turns
stop_deed stop.Ended = HasEnded

-- what the one item does that a fault names: the access of its line, or it can't go on
abbrev pub lone_deed : Fault → Deed
lone_deed (fault.Bounds item kind location element) = Accesses kind
lone_deed (fault.Unset item kind location byte) = Accesses kind
lone_deed _ = Fails

-- what the items do that are told: the accesses of the fault's line, the stops of a divergence; else one can't go on
abbrev pub told_deeds : Fault → Played → List Deed
told_deeds (fault.Conflict clash item kind other_item other_kind location byte) played =
    option_map_or (λ pair. in_order pair (Accesses kind) (Accesses other_kind)) played.pair (Accesses kind ∷ Accesses other_kind ∷ [])
told_deeds (fault.Divergence item one other_item other) played = stop_deed one ∷ stop_deed other ∷ []
told_deeds (fault.Bounds item kind location element) played = Accesses kind ∷ []
told_deeds (fault.PrivateBounds item array element) played = Fails ∷ []
told_deeds (fault.Unset item kind location byte) played = Accesses kind ∷ []
told_deeds (fault.UnsetVariable item variable) played = Fails ∷ []
told_deeds (fault.UnsetElement item array element) played = Fails ∷ []
told_deeds (fault.DivideByZero item) played = Fails ∷ []
told_deeds (fault.DivideOverflow item) played = Fails ∷ []
told_deeds (fault.Budget item) played = Fails ∷ []

-- the number from 1 of the event that made an access, of which none is told only where there are fewer accesses; an
-- item that is told elsewhere has none
abbrev pub IsEventAt : List Mark → Site → Option ℕ → Type 0
IsEventAt marks (AtAccess access) None = count_by (λ mark. is_access mark.event) marks ≤ access
IsEventAt marks (AtAccess access) (Some number) = (before : ℕ) × (number ≡ before + 1) × MadeAccess marks access before
IsEventAt marks (AtStand stand) event = event ≡ None
IsEventAt marks AtEnd event = event ≡ None

-- the same of each of these items, in this order
abbrev pub HaveEvents : List Mark → List (ℕ × Site) → List NamedItem → Type 0
HaveEvents marks told items = AllZip (λ t named. IsEventAt marks t.1 named.event) told items
