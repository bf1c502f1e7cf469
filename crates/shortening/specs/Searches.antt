-- What a search for a shorter schedule keeps (own).
use Rattle.std.specs.Prelude.{ℕ, ◌+◌, ◌≤◌, List, length}
use Rattle.clmodel.specs.Outcome.{events_of}
use Rattle.clmodel.specs.declared.schedule.Event.{Event}
use Rattle.clmodel.specs.declared.schedule.EventRun.{EventRun}
use Rattle.clmodel.specs.declared.schedule.EventRun.TheVariants as run
use Rattle.shortening.specs.declared.search.Search.{Search}

-- how many events a schedule has (own)
abbrev pub event_count : List EventRun → ℕ
event_count runs = length (events_of runs)

-- how many events a run has (own)
abbrev pub run_count : EventRun → ℕ
run_count (run.Item item count) = count
run_count (run.Release group) = 1

-- the same schedules lead to the fault before and after (own)
abbrev pub LeadsAsBefore : {S : Type 0} → (S → List Event → Type 0) → S → S → Type 0
LeadsAsBefore leads old new = (events : List Event) → (leads old events → leads new events) × (leads new events → leads old events)

-- from one state of a judge and a search to a later one: the best schedule leads to the fault, and isn't longer; each
-- judgement is counted (own)
pub record Advances {S : Type 0} (leads : S → List Event → Type 0) (judged : S → ℕ) (old new : S) (was now : Search) : Type 0 where
  pub leads_there : leads new (events_of now.best)
  pub same : LeadsAsBefore leads old new
  pub not_longer : event_count now.best ≤ event_count was.best
  pub counted : judged new + now.left ≤ judged old + was.left
