-- What a turn says, by its parts: an event that is made, a fault that is reported, or the end.
use Rattle.std.proofs.Common.{◌≡◌, ℕ, Option, None, Some, refl, if◌then◌else◌}
use Rattle.clmodel.specs.Cells.{reads, lowest_unset, size_of}
use Rattle.clmodel.specs.Launch.{Launch, region_of, kind_of, group_of}
use Rattle.clmodel.specs.Run.{State, next_action, byte_at, stop_of}
use Rattle.clmodel.specs.Law.{conflict_fault, Turn, Makes, Reports, Finishes, unset_turn, access_turn, divergence, item_turn, conflict_turn}
use Rattle.clmodel.specs.declared.access.AccessKind.{AccessKind}
use Rattle.clmodel.specs.declared.access.Conflict as conflict_type
use Rattle.clmodel.specs.declared.access.Region.{Region}
use Rattle.clmodel.specs.declared.action.Action.{Action}
use Rattle.clmodel.specs.declared.action.Action.TheVariants as action
use Rattle.clmodel.specs.declared.action.Stop.{Stop}
use Rattle.clmodel.specs.declared.action.Stop.TheVariants.{At, Ended}
use Rattle.clmodel.specs.declared.fault.Fault.{Fault}
use Rattle.clmodel.specs.declared.schedule.Event.{Event}
use Rattle.clmodel.specs.declared.schedule.Event.TheVariants.{Item}

pub makes_inj : (e f : Event) → Makes e ≡ Makes f → e ≡ f
makes_inj e f h = cc

pub reports_inj : (f g : Fault) → Reports f ≡ Reports g → f ≡ g
reports_inj f g h = cc

pub makes_reports : (e : Event) (f : Fault) → Makes e ≡ Reports f → ⊥
makes_reports e f h = cc

pub reports_makes : (f : Fault) (e : Event) → Reports f ≡ Makes e → ⊥
reports_makes f e h = cc

pub makes_finishes : (e : Event) → Makes e ≡ Finishes → ⊥
makes_finishes e h = cc

pub finishes_makes : (e : Event) → Finishes ≡ Makes e → ⊥
finishes_makes e h = cc

pub reports_finishes : (f : Fault) → Reports f ≡ Finishes → ⊥
reports_finishes f h = cc

pub finishes_reports : (f : Fault) → Finishes ≡ Reports f → ⊥
finishes_reports f h = cc

-- an event is made only where the newest access has no conflict
pub quiet_makes : (l : Launch) (o : Option conflict_type.Conflict) (t : Turn) (e : Event) → conflict_turn l o t ≡ Makes e → o ≡ None
quiet_makes l None t e h = refl
quiet_makes l (Some c) t e h = absurd (reports_makes (conflict_fault l c) e h)

pub quiet_finishes : (l : Launch) (o : Option conflict_type.Conflict) (t : Turn) → conflict_turn l o t ≡ Finishes → (o ≡ None) × (t ≡ Finishes)
quiet_finishes l None t h = (refl, h)
quiet_finishes l (Some c) t h = absurd (reports_finishes (conflict_fault l c) h)

pub unset_goes : (l : Launch) (i : ℕ) (k : AccessKind) (r : Region) (o : Option ℕ) → unset_turn l i k r o ≡ Finishes → ⊥
unset_goes l i k r None h = makes_finishes (Item i) h
unset_goes l i k r (Some byte) h = reports_finishes _ h

pub divergence_goes : (first : ℕ) (o : Option Stop) (i : ℕ) (x : Stop) → divergence first o i x ≡ Finishes → ⊥
divergence_goes first None i x h = makes_finishes (Item i) h
divergence_goes first (Some y) i x h = reports_finishes _ h

pub item_goes : (l : Launch) (s : State) (first i : ℕ) (a : Action) → item_turn l s first i a ≡ Finishes → ⊥
item_goes l s first i (action.Access o e op) h = go (byte_at l i o e op) h
  where
    go : (p : Option ℕ) → access_turn l s i o e op p ≡ Finishes → ⊥
    go None h = reports_finishes _ h
    go (Some byte) h =
        unset_goes l i (kind_of op) (region_of (group_of l i) o) (if reads op then lowest_unset (s.memory (region_of (group_of l i) o)) byte (size_of op) else None) h
item_goes l s first i (action.Barrier x f) h = divergence_goes first (stop_of (next_action l s first)) i (At x) h
item_goes l s first i action.End h = divergence_goes first (stop_of (next_action l s first)) i Ended h
item_goes l s first i (action.Fault c) h = reports_finishes _ h
