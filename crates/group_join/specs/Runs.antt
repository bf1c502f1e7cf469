-- Schedules told in runs, one after another (own).
use Rattle.std.specs.Prelude.{◌≡◌, ℕ, ◌-◌, ◌<◌, ◌≤◌, List, [], ◌∷◌, ◌++◌, take}
use Rattle.clmodel.specs.Outcome.{events_of, BeginsApart, IsMerged}
use Rattle.clmodel.specs.declared.schedule.Event.{Event}
use Rattle.clmodel.specs.declared.schedule.EventRun.{EventRun}
use Rattle.group_run.specs.Runs.{EndsWith}

-- runs that may stand behind others as they are: they are merged in themselves, and don't begin with a run of the item
-- that those end with (own)
pub record MayFollow (old more : List EventRun) : Type 0 where
  pub merged : IsMerged more
  pub apart : (item : ℕ) → EndsWith item old → BeginsApart item more

-- runs with the events of further runs: they stay merged where both were (own)
pub record Adds (old new more : List EventRun) (added : List Event) : Type 0 where
  pub events : events_of new ≡ events_of old ++ added
  pub merged : IsMerged old → IsMerged more → IsMerged new

-- the first events of a run, `most` of them or all where it has fewer, and how many they are: they may stand where the
-- run may (own)
pub record IsFirstOf (whole : EventRun) (most : ℕ) (first : EventRun) (taken : ℕ) : Type 0 where
  pub some : taken ≤ most
  pub events : (rest : List Event) → take most (events_of (whole ∷ []) ++ rest) ≡ events_of (first ∷ []) ++ take (most - taken) rest
  pub follows : (old : List EventRun) → MayFollow old (whole ∷ []) → MayFollow old (first ∷ [])
  pub all : taken < most → first ≡ whole
