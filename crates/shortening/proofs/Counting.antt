-- How many events there are in runs.
use Rattle.std.proofs.Common.{◌≡◌, ℕ, ◌+◌, ◌-◌, ◌<◌, ◌≤◌, ◌^◌, min, List, ◌∷◌, ap, ◌∙◌, arith}
use Rattle.std.proofs.Math.Nat.{min-le_left, min-le_right}
use Rattle.std.proofs.lemmas.List.{length-replicate, length-append}
use Rattle.std.specs.Prelude.{replicate}
use Rattle.clmodel.specs.Outcome.{events_of}
use Rattle.clmodel.specs.declared.schedule.Event.TheVariants as event
use Rattle.clmodel.specs.declared.schedule.EventRun.{EventRun}
use Rattle.clmodel.specs.declared.schedule.EventRun.TheVariants as run
use Rattle.shortening.specs.Searches.{event_count, run_count}

pub count_more : (r : EventRun) (runs : List EventRun) → event_count (r ∷ runs) ≡ run_count r + event_count runs
count_more (run.Item item count) runs =
    length-append (replicate count (event.Item item)) (events_of runs) ∙ ap (λ n. n + event_count runs) (length-replicate count (event.Item item))
count_more (run.Release group) runs = omega arith
