-- Schedules told in runs, event by event (own).
use Rattle.std.specs.Prelude.{◌≡◌, ℕ, ◌++◌, List, [], ◌∷◌}
use Rattle.clmodel.specs.Outcome.{events_of, IsMerged}
use Rattle.clmodel.specs.declared.schedule.Event.{Event}
use Rattle.clmodel.specs.declared.schedule.EventRun.{EventRun}
use Rattle.clmodel.specs.declared.schedule.EventRun.TheVariants as run

-- the last run is of this item (own)
abbrev pub EndsWith : ℕ → List EventRun → Type 0
EndsWith item [] = ⊥
EndsWith item (run.Item other count ∷ []) = item ≡ other
EndsWith item (run.Release group ∷ []) = ⊥
EndsWith item (first ∷ second ∷ runs) = EndsWith item (second ∷ runs)

-- runs with one event more (own)
pub record AddsEvent (old new : List EventRun) (event : Event) : Type 0 where
  pub events : events_of new ≡ events_of old ++ event ∷ []
  pub merged : IsMerged old → IsMerged new
