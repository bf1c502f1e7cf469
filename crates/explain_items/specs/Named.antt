-- The items that an explanation tells of a fault, each where it stands (own).
use Rattle.std.specs.Prelude.{◌≡◌, ℕ, Option, None, Some, List, [], ◌∷◌, length, nat_lt, slice_get, if◌then◌else◌}
use Rattle.std.specs.List.{AllZip}
use Rattle.std.specs.Option.{option_and_then, option_map_or}
use Rattle.clmodel.specs.declared.action.Stop.{Stop}
use Rattle.clmodel.specs.declared.action.Stop.TheVariants as stop
use Rattle.clmodel.specs.declared.fault.Fault.{Fault}
use Rattle.clmodel.specs.declared.fault.Fault.TheVariants as fault
use Rattle.fault_play.specs.PlayedOut.{IsEventOf, IsLastEvent, MadeAccess, acts_at}
use Rattle.fault_play.specs.declared.played.Played.{Played}
use Rattle.explanation.specs.declared.told.NamedItem.{NamedItem}
use Rattle.fault_play.specs.declared.marks.Mark.{Mark}
use Rattle.replay.specs.declared.conflicts.Pair.{Pair}
use Rattle.replay.specs.declared.slot.Stand.{Stand}
use Rattle.explain_items.specs.Spotted.{IsNamed, IsNamedInside}
use Rattle.explain_items.specs.declared.context.Context.{Context}

-- where the item of the event of a number stands, if there is one
abbrev pub stand_of : List Mark → Option ℕ → Option Stand
stand_of marks event = option_and_then (λ number. option_and_then (λ mark. mark.stand) (slice_get marks number)) event

-- where an item stood that made the access of a number
pub record IsAccessStand (marks : List Mark) (access : ℕ) (stand : Stand) : Type 0 where
  pub number : ℕ
  pub made : MadeAccess marks access number
  pub at : made.mark.stand ≡ Some stand

-- where an item stood when it made its last access
pub record IsItemStand (marks : List Mark) (item : ℕ) (stand : Stand) : Type 0 where
  pub number : ℕ
  pub last : IsLastEvent (acts_at marks item) (length marks) (Some number)
  pub event : IsEventOf marks item number
  pub at : event.mark.stand ≡ Some stand

-- where an item is told: at the access of this number, where it stands, or nowhere, since it has ended
pub data Site : Type 0 where
  AtAccess : ℕ → Site
  AtStand : Option Stand → Site
  AtEnd : Site

abbrev pub IsHere : List Mark → Site → Stand → Type 0
IsHere marks (AtAccess access) stand = IsAccessStand marks access stand
IsHere marks (AtStand o) stand = o ≡ Some stand
IsHere marks AtEnd stand = ⊥

-- where the last access of an item is told: of one that has ended
abbrev pub IsBefore : List Mark → ℕ → Site → Stand → Type 0
IsBefore marks item (AtAccess access) stand = ⊥
IsBefore marks item (AtStand o) stand = ⊥
IsBefore marks item AtEnd stand = IsItemStand marks item stand

-- the item of a number at a site, of this launch and with places in this source
abbrev pub IsTold : Context → List Mark → ℕ × Site → NamedItem → Type 0
IsTold context marks told named =
    IsNamed context.launch.now context.program.text.now context.program.first_line (λ stand. IsHere marks told.1 stand) (λ stand. IsBefore marks told.0 told.1 stand)
    told.0 named

-- these items, in this order
abbrev pub AreTold : Context → List Mark → List (ℕ × Site) → List NamedItem → Type 0
AreTold context marks told items = AllZip (λ t named. IsTold context marks t named) told items

-- the same, of those stands alone that are at an instruction of the launch
abbrev pub IsToldInside : Context → List Mark → ℕ × Site → NamedItem → Type 0
IsToldInside context marks told named =
    IsNamedInside context.launch.now context.program.text.now context.program.first_line (λ stand. IsHere marks told.1 stand) (λ stand. IsBefore marks told.0 told.1 stand)
    told.0 named

abbrev pub AreToldInside : Context → List Mark → List (ℕ × Site) → List NamedItem → Type 0
AreToldInside context marks told items = AllZip (λ t named. IsToldInside context marks t named) told items

-- what belongs to the two accesses of a pair, in the order in which they were made
abbrev pub in_order : {X : Type 0} → Pair → X → X → List X
in_order pair first second = if nat_lt pair.second pair.first then second ∷ first ∷ [] else first ∷ second ∷ []

-- where an item is told that has come to a stop
abbrev pub site_of : Stop → Option Stand → Site
site_of stop.Ended stand = AtEnd
site_of (stop.At instance) stand = AtStand stand

-- the items that are told: of a conflict its two, each at its access, or with no place where these weren't found; else
-- those that stand somewhere
abbrev pub told_items : Fault → Played → List (ℕ × Site)
told_items (fault.Conflict clash item kind other_item other_kind location byte) played =
    option_map_or (λ pair. in_order pair (item, AtAccess pair.first) (other_item, AtAccess pair.second)) played.pair
    ((item, AtStand None) ∷ (other_item, AtStand None) ∷ [])
told_items (fault.Divergence item one other_item other) played =
    (played.first.item, site_of one played.first.stand) ∷ (played.second.item, site_of other played.second.stand) ∷ []
told_items (fault.Bounds item kind location element) played = (played.first.item, AtStand played.first.stand) ∷ []
told_items (fault.PrivateBounds item array element) played = (played.first.item, AtStand played.first.stand) ∷ []
told_items (fault.Unset item kind location byte) played = (played.first.item, AtStand played.first.stand) ∷ []
told_items (fault.UnsetVariable item variable) played = (played.first.item, AtStand played.first.stand) ∷ []
told_items (fault.UnsetElement item array element) played = (played.first.item, AtStand played.first.stand) ∷ []
told_items (fault.DivideByZero item) played = (played.first.item, AtStand played.first.stand) ∷ []
told_items (fault.DivideOverflow item) played = (played.first.item, AtStand played.first.stand) ∷ []
told_items (fault.Budget item) played = (played.first.item, AtStand played.first.stand) ∷ []
