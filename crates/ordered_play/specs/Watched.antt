-- A launch as it is played, whose accesses a filter notes (own).
use Rattle.std.specs.Prelude.{◌≡◌, ℕ, Bool, true, Option, None, Some}
use Rattle.clmodel.specs.Launch.{Launch}
use Rattle.clmodel.specs.Run.{State, step}
use Rattle.clmodel.specs.declared.schedule.Event.TheVariants.{Item}
use Rattle.item_step.specs.Running.{Running}
use Rattle.ordered_runs.specs.Ordered.{newest_race}
use Rattle.race_filter.specs.Filters.{Keeps}
use Rattle.replay.specs.States.{IsAt}
use Rattle.ordered_play.specs.declared.watching.Watched.{Watched}

-- a player of a launch is at a state of it, and the filter has noted the accesses of that state
pub record IsWatched {D : Type 0} (launch_of : D → Launch) (started_of : D → ℕ → Running) (launch : Launch) (started : ℕ → Running) (watched : Watched D) (state : State) : Type 0 where
  pub at : IsAt {D = D} launch_of started_of launch started watched.player state
  pub kept : Keeps launch watched.filter state.log

-- an item's access isn't possible; or it was made, and where true is said it races with none before it
abbrev pub IsMade : Launch → State → ℕ → (State → Type 0) → Option Bool → Type 0
IsMade launch state item new None = (step launch state (Item item) ≡ None) × new state
IsMade launch state item new (Some quiet) = (next : State) × (step launch state (Item item) ≡ Some next) × new next × (quiet ≡ true → newest_race launch next.log ≡ None)
