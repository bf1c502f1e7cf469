-- What comes of one item's turn (own, on OpenCL 1.2, 3.2).
use Rattle.std.specs.Prelude.{◌≡◌, ℕ, false, None, Some}
use Rattle.clmodel.specs.Launch.{Launch}
use Rattle.clmodel.specs.Run.{State, next_action, step, stop_of}
use Rattle.clmodel.specs.Law.{Makes, Reports, Shows, conflict_fault, item_turn}
use Rattle.clmodel.specs.declared.access.Conflict as conflict_type
use Rattle.clmodel.specs.declared.fault.Fault.{Fault}
use Rattle.clmodel.specs.declared.schedule.Event.TheVariants.{Item}
use Rattle.ordered_runs.specs.Ordered.{newest_race, is_order}
use Rattle.ordered_play.specs.declared.stepping.Stepped.{Stepped}
use Rattle.ordered_play.specs.declared.stepping.Stepped.TheVariants as stepped

-- an item's next access is possible, is its turn whichever the first item of its group is, and leads to a state (3.2)
pub record MakesAccess (launch : Launch) (state : State) (item : ℕ) (next : State) : Type 0 where
  pub goes : stop_of (next_action launch state item) ≡ None
  pub makes : (first : ℕ) → item_turn launch state first item (next_action launch state item) ≡ Makes (Item item)
  pub steps : step launch state (Item item) ≡ Some next

-- an item is at no stop and can't go on, as this fault tells: the state shows it, and it is no conflict (own, on C99
-- 6.5.5, 6.5.6, 6.7.8)
pub record CannotGo (launch : Launch) (state : State) (item : ℕ) (fault : Fault) : Type 0 where
  pub goes : stop_of (next_action launch state item) ≡ None
  pub reports : (first : ℕ) → item_turn launch state first item (next_action launch state item) ≡ Reports fault
  pub shows : Shows launch state fault
  pub no_order : is_order fault ≡ false

-- whether the newest access of a state races, as it is told of an access that was made (3.3.1)
abbrev pub IsJudged : Launch → State → Stepped → Type 0
IsJudged launch state stepped.Made = newest_race launch state.log ≡ None
IsJudged launch state (stepped.Races fault) = (c : conflict_type.Conflict) × (newest_race launch state.log ≡ Some c) × (conflict_fault launch c ≡ fault)
IsJudged launch state (stepped.Stops stop) = ⊥
IsJudged launch state (stepped.Fails fault) = ⊥

-- what came of an item's turn in a state, and what is kept tells of the state to which it led (own)
abbrev pub IsStepped : Launch → State → ℕ → (State → Type 0) → Stepped → Type 0
IsStepped launch state item new stepped.Made = (next : State) × MakesAccess launch state item next × IsJudged launch next stepped.Made × new next
IsStepped launch state item new (stepped.Races fault) = (next : State) × MakesAccess launch state item next × IsJudged launch next (stepped.Races fault) × new next
IsStepped launch state item new (stepped.Stops stop) = (stop_of (next_action launch state item) ≡ Some stop) × new state
IsStepped launch state item new (stepped.Fails fault) = CannotGo launch state item fault × new state
