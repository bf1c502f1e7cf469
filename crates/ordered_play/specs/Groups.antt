-- How far an ordered run has come, group by group (own).
use Rattle.std.specs.Prelude.{◌≡◌, ℕ, ◌<◌, Bool, true, false, Option, None, Some}
use Rattle.clmodel.specs.Launch.{Launch, group_of}
use Rattle.clmodel.specs.Run.{State, Events, start, next_action}
use Rattle.clmodel.specs.Law.{Reports, has_ended}
use Rattle.clmodel.specs.declared.action.Action.{Action}
use Rattle.clmodel.specs.declared.action.Action.TheVariants as action
use Rattle.clmodel.specs.declared.action.Stop.{Stop}
use Rattle.clmodel.specs.declared.fault.Fault.{Fault}
use Rattle.joining.specs.Group.{plan_of}
use Rattle.group_run.specs.Loops.{AtOneStop, IsLeading}
use Rattle.ordered_runs.specs.Ordered.{OrderedTo, newest_race, ordered_turn}

-- all items of the groups below one have ended (3.2)
abbrev pub AreOver : Launch → ℕ → State → Type 0
AreOver launch group state = (item : ℕ) → item < launch.items → group_of launch item < group → has_ended (next_action launch state item) ≡ true

-- an action is a barrier (6.12.8)
abbrev pub is_barrier : Action → Bool
is_barrier (action.Access _ _ _) = false
is_barrier (action.Barrier _ _) = true
is_barrier action.End = false
is_barrier (action.Fault _) = false

-- The ordered run of a launch has made these events and come to a state that fits, whose newest access has no race. All
-- groups below this one are over (own).
pub record Reached (launch : Launch) (group : ℕ) (fits : State → Type 0) (events : Events) : Type 0 where
  pub state : State
  pub runs : OrderedTo launch (start launch) events state
  pub calm : newest_race launch state.log ≡ None
  pub over : AreOver launch group state
  pub holds : fits state

-- the first k items of the group are at one stop, and this one is kept if there are any (6.12.8)
pub record Gathers (launch : Launch) (group : ℕ) (fits : State → Type 0) (events : Events) (count : ℕ) (leading : Option Stop) : Type 0 where
  pub reached : Reached launch group fits events
  pub gathered : AtOneStop (plan_of launch group) reached.state count
  pub leads : IsLeading (plan_of launch group) reached.state count leading

-- the ordered run has made these events and ends with this report in a state that fits (own)
pub record Reported (launch : Launch) (fits : State → Type 0) (events : Events) (fault : Fault) : Type 0 where
  pub state : State
  pub runs : OrderedTo launch (start launch) events state
  pub reports : ordered_turn launch state ≡ Reports fault
  pub holds : fits state

-- by its report: the run is over, or without one these items are at one stop (6.12.8, own)
abbrev pub GathersOrReports : Launch → ℕ → (State → Type 0) → Events → ℕ → Option Stop → Option Fault → Type 0
GathersOrReports launch group fits events count leading None = Gathers launch group fits events count leading
GathersOrReports launch group fits events count leading (Some fault) = Reported launch fits events fault

-- by its report: the run is over, or without one it has come to this group (own)
abbrev pub ReachedOrReports : Launch → ℕ → (State → Type 0) → Events → Option Fault → Type 0
ReachedOrReports launch group fits events None = Reached launch group fits events
ReachedOrReports launch group fits events (Some fault) = Reported launch fits events fault
