-- What the loops of a group's run know of its items (own).
use Rattle.std.specs.Prelude.{◌≡◌, ℕ, ◌+◌, ◌<◌, ◌^◌, ℤ, true, None, Some, Option, [], ◌∷◌, ◌++◌, Box}
use Rattle.std.specs.declared.alloc.Global.{Global}
use Rattle.clmodel.specs.Run.{State, Events, step, next_action, stop_of, both_stop}
use Rattle.clmodel.specs.Law.{Makes, Reports, newest_conflict, conflict_fault, item_turn, IsBounded, answers_left}
use Rattle.clmodel.specs.declared.access.Conflict as conflict_type
use Rattle.clmodel.specs.declared.access.Object.{Object}
use Rattle.clmodel.specs.declared.access.Operation.{Operation}
use Rattle.clmodel.specs.declared.action.Action.{Action}
use Rattle.clmodel.specs.declared.action.Action.TheVariants as action
use Rattle.clmodel.specs.declared.action.Stop.{Stop}
use Rattle.clmodel.specs.declared.fault.Fault.{Fault}
use Rattle.clmodel.specs.declared.schedule.Event.TheVariants.{Item}
use Rattle.joining.specs.Group.{Plan, Reached, Reported}
use Rattle.group_run.specs.declared.machine.Made.{Made}
use Rattle.group_run.specs.declared.machine.Made.TheVariants as made

-- an item's next action is this access (OpenCL 1.2, 6.1.5, 6.3, 6.12.11)
abbrev pub IsNextAccess : Plan → State → ℕ → Object → ℤ → Operation → Type 0
IsNextAccess plan state item object element operation = next_action plan.launch state item ≡ action.Access object element operation

-- an item's access is its turn and leads to a state (own, on 3.2.1)
pub record Steps (plan : Plan) (old new : State) (item : ℕ) : Type 0 where
  pub makes : item_turn plan.launch old plan.first item (next_action plan.launch old item) ≡ Makes (Item item)
  pub steps : step plan.launch old (Item item) ≡ Some new

-- what became of an access that was done, by the fault that its log reports (own)
abbrev pub judged_as : Option (Box Fault Global) → Made
judged_as None = made.Done
judged_as (Some fault) = made.Conflicts fault

-- what became of an action that an item does next, in each state that fitted: it is done, with a conflict or without,
-- or it can't be done
abbrev pub IsMade : Plan → (Events → State → Type 0) → (Events → State → Type 0) → ℕ → Action → Made → Type 0
IsMade plan old new item act made.Done =
    (events : Events) (state : State) → old events state → next_action plan.launch state item ≡ act
    → (next : State) × Steps plan state next item × new (events ++ Item item ∷ []) next × (newest_conflict plan.launch next.log ≡ None)
IsMade plan old new item act (made.Conflicts fault) =
    (events : Events) (state : State) → old events state → next_action plan.launch state item ≡ act
    → (next : State) × (conflict : conflict_type.Conflict) × Steps plan state next item × new (events ++ Item item ∷ []) next × (newest_conflict plan.launch next.log ≡ Some conflict)
    × (conflict_fault plan.launch conflict ≡ fault.value)
IsMade plan old new item act (made.Refused fault) =
    (events : Events) (state : State) → old events state → next_action plan.launch state item ≡ act
    → (item_turn plan.launch state plan.first item (next_action plan.launch state item) ≡ Reports fault.value) × new events state

-- the first k items of the group are at the first one's stop: the same barrier in the same turns, or the end (OpenCL
-- 1.2, 6.12.8)
abbrev pub AtOneStop : Plan → State → ℕ → Type 0
AtOneStop plan state count =
    (k : ℕ) → k < count → both_stop (stop_of (next_action plan.launch state plan.first)) (stop_of (next_action plan.launch state (plan.first + k))) ≡ true

-- the group has come so far that these items are at one stop
abbrev pub Gathers : Plan → (Events → State → Type 0) → State → Events → ℕ → Type 0
Gathers plan fits origin events count = (reached : Reached plan fits origin events) × AtOneStop plan reached.state count

-- the stop that is kept of the group's first item, where it is among the `count` items that have run: none before
-- (OpenCL 1.2, 6.12.8)
abbrev pub IsLeading : Plan → State → ℕ → Option Stop → Type 0
IsLeading plan state count None = count ≡ 0
IsLeading plan state count (Some stop) = (0 < count) × (stop_of (next_action plan.launch state plan.first) ≡ Some stop)

-- the group has come so far that these items are at one stop, which is this one if there are any
abbrev pub GathersAt : Plan → (Events → State → Type 0) → State → Events → ℕ → Option Stop → Type 0
GathersAt plan fits origin events count leading = (gathers : Gathers plan fits origin events count) × IsLeading plan gathers.0.state count leading

-- the run of a launch from a state has fewer events than 2^64
abbrev pub IsBrief : Plan → State → Type 0
IsBrief plan origin = (bound : ℕ) × IsBounded plan.launch bound × (answers_left plan.launch bound origin < 2 ^ 64)

-- by its report: the run of the group is over, or without one it goes on from where these items are at one stop
abbrev pub GathersOrReports : Plan → (Events → State → Type 0) → State → Events → ℕ → Option Stop → Option (Box Fault Global) → Type 0
GathersOrReports plan fits origin events count leading None = GathersAt plan fits origin events count leading
GathersOrReports plan fits origin events count leading (Some fault) = Reported plan fits origin events fault.value

-- after an interval, by the report that it brings: all items are at one stop
abbrev pub IsGathered : Plan → (Events → State → Type 0) → State → Events → Option (Box Fault Global) → Type 0
IsGathered plan fits origin events None = Gathers plan fits origin events plan.count
IsGathered plan fits origin events (Some fault) = Reported plan fits origin events fault.value
