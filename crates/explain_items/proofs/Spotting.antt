-- From the origin of an instruction to its place in the source, and from an event to where its item stands.
use Rattle.std.proofs.Common.{◌≡◌, ◌≤◌, ℕ, Option, None, Some, is_some, List, length, count_by, arith, refl, inl, inr, sym, ap, ◌∙◌}
use Rattle.std.specs.Option.{IfNone, IfSome, option_and_then}
use Rattle.std.proofs.lemmas.Bool.{false≢true}
use Rattle.std.proofs.lemmas.Option.{IfSome_then}
use Rattle.fault_play.specs.PlayedOut.{IsEventOf, IsLastEvent, MadeAccess, acts_at, is_access}
use Rattle.explanation.specs.declared.places.Spot.{Spot}
use Rattle.explanation.specs.declared.told.NamedItem.{NamedItem}
use Rattle.clmodel.specs.Setup.{kernel_in}
use Rattle.clmodel.specs.Tree.{Func}
use Rattle.item_step.specs.Launches.{code_of, setup_of}
use Rattle.item_step.specs.declared.launch.Launch.{Launch}
use Rattle.fault_play.specs.declared.marks.Mark.{Mark}
use Rattle.origins.specs.Finding.{IsFound, IsOriginIn, plain}
use Rattle.origins.specs.declared.origin.Origin.{Origin}
use Rattle.replay.specs.declared.slot.Stand.{Stand}
use Rattle.source_spots.specs.Spots.{HaveTurns}
use Rattle.explain_items.specs.Named.{IsAccessStand, IsItemStand, stand_of}
use Rattle.explain_items.specs.Marked.{CodeIsMarked, origins_of}
use Rattle.explain_items.specs.Spotted.{BeginsAt, HasNoSpot, StandsInside, IsNamed, IsSpotted}
use Rattle.explain_items.proofs.Counting.{one_last, passes_once, passes_within}
use Rattle.explain_items.proofs.Renaming.{as_many, instruction_at}

pub spotted :
    (launch : Launch) (stand : Stand) (text : List ℕ) (first : ℕ) (origin : Origin) (spot : Spot) → CodeIsMarked launch
    → IsOriginIn (setup_of launch).program.functions (setup_of launch).kernel stand.place (Some origin) → BeginsAt text first origin spot → HaveTurns stand.turns spot.loops.items
    → IsSpotted launch stand text first spot
spotted launch stand text first origin spot marked is begins turns = go (kernel_in (setup_of launch).program.functions (setup_of launch).kernel) refl
  where
    go : (o : Option Func) → kernel_in (setup_of launch).program.functions (setup_of launch).kernel ≡ o → IsSpotted launch stand text first spot
    go None e = absurd (false≢true (sym (ap is_some e) ∙ marked.there))
    go (Some f) e =
        let made = instruction_at (origins_of launch f) (code_of launch).instructions stand.place (plain origin) (marked.marks f e).each (is f e) in
        record {
          instruction = made.0;
          stands = made.1;
          kernel = f;
          known = e;
          origin = origin;
          is = is f e;
          suits = made.2;
          begins_at = begins;
          turned = turns;
        }

-- no origin is found only of a place that is none of the code
pub unspotted :
    (launch : Launch) (stand : Stand) → CodeIsMarked launch → IsOriginIn (setup_of launch).program.functions (setup_of launch).kernel stand.place None → StandsInside launch stand → ⊥
unspotted launch stand marked is inside = go (kernel_in (setup_of launch).program.functions (setup_of launch).kernel) refl
  where
    found : (f : Func) → length (origins_of launch f) ≡ length (code_of launch).instructions → IsFound (origins_of launch f) stand.place None → ⊥
    found f many (inl past) = absurd (omega (arith, past, many, inside))
    found f many (inr huge) = let few = marked.few in absurd (omega (arith, huge, many, few))

    go : (o : Option Func) → kernel_in (setup_of launch).program.functions (setup_of launch).kernel ≡ o → ⊥
    go None e = absurd (false≢true (sym (ap is_some e) ∙ marked.there))
    go (Some f) e = found f (as_many (origins_of launch f) (code_of launch).instructions (marked.marks f e).each) (is f e)

pub access_stand :
    (marks : List Mark) (access : ℕ) (event : Option ℕ) (stand : Option Stand) → IfSome event (MadeAccess marks access) → stand ≡ stand_of marks event → (p : Stand) → stand ≡ Some p → IsAccessStand marks access p
access_stand marks access None stand made e p is = let n : None ≡ Some p = sym e ∙ is in cc
access_stand marks access (Some number) stand made e p is =
    record { number = number; made = made; at = sym (ap (option_and_then (λ mark. mark.stand)) made.at) ∙ sym e ∙ is }

-- there is only one event that made an access
pub access_stand_back :
    (marks : List Mark) (access : ℕ) (event : Option ℕ) (stand : Option Stand) → IfSome event (MadeAccess marks access) → IfNone event (count_by (λ mark. is_access mark.event) marks ≤ access)
    → stand ≡ stand_of marks event → (p : Stand) → IsAccessStand marks access p → stand ≡ Some p
access_stand_back marks access None stand made few e p h =
    absurd (omega (arith, few, h.made.counted, passes_within (λ mark. is_access mark.event) marks h.number h.made.mark h.made.at h.made.makes))
access_stand_back marks access (Some number) stand made few e p h =
    let same : number ≡ h.number =
    passes_once (λ mark. is_access mark.event) marks number h.number made.mark h.made.mark made.at made.makes h.made.at h.made.makes (made.counted ∙ sym h.made.counted) in
    e ∙ ap (λ n. stand_of marks (Some n)) same ∙ ap (option_and_then (λ mark. mark.stand)) h.made.at ∙ h.at

pub item_stand :
    (marks : List Mark) (item : ℕ) (event : Option ℕ) (stand : Option Stand) → IfSome event (IsEventOf marks item) → IsLastEvent (acts_at marks item) (length marks) event → stand ≡ stand_of marks event
    → (p : Stand) → stand ≡ Some p → IsItemStand marks item p
item_stand marks item None stand made last e p is = let n : None ≡ Some p = sym e ∙ is in cc
item_stand marks item (Some number) stand made last e p is =
    record { number = number; last = last; event = made; at = sym (ap (option_and_then (λ mark. mark.stand)) made.at) ∙ sym e ∙ is }

-- there is only one last event of an item
pub item_stand_back :
    (marks : List Mark) (item : ℕ) (event : Option ℕ) (stand : Option Stand) → IsLastEvent (acts_at marks item) (length marks) event → stand ≡ stand_of marks event → (p : Stand)
    → IsItemStand marks item p → stand ≡ Some p
item_stand_back marks item event stand last e p h =
    let same : event ≡ Some h.number = one_last (acts_at marks item) (length marks) event h.number last h.last in
    e ∙ ap (stand_of marks) same ∙ ap (option_and_then (λ mark. mark.stand)) h.event.at ∙ h.at

-- what isn't told, where the places are the same
pub none_at :
    {A : Type 0} (found : Option A) (text : List ℕ) (first : ℕ) (here here' : Stand → Type 0) → ((p : Stand) → here' p → here p) → IfNone found (HasNoSpot text first here)
    → IfNone found (HasNoSpot text first here')
none_at None text first here here' f none = λ stand at h. none stand (f stand at) h
none_at (Some x) text first here here' f none = tt

-- the same item, where the places are told otherwise
pub named_at :
    (launch : Launch) (text : List ℕ) (first : ℕ) (here before here' before' : Stand → Type 0) (item : ℕ) (named : NamedItem) → ((p : Stand) → here p → here' p) → ((p : Stand) → here' p → here p)
    → ((p : Stand) → before p → before' p) → ((p : Stand) → before' p → before p) → IsNamed launch text first here before item named → IsNamed launch text first here' before' item named
named_at launch text first here before here' before' item named f f' g g' n = record {
  number = n.number;
  ids = n.ids;
  spotted = IfSome_then named.spot n.spotted (λ spot s. (s.0, f s.0 s.1, s.2));
  unspotted = none_at named.spot text first here here' f' n.unspotted;
  last_spotted = IfSome_then named.last n.last_spotted (λ spot s. (s.0, g s.0 s.1, s.2));
  last_unspotted = none_at named.last text first before before' g' n.last_unspotted;
}
