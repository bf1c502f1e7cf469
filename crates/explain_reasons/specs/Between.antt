-- What stands between the two accesses of a conflict, and what they leave (own; barriers are those of OpenCL 1.2,
-- section 6.12.8).
use Rattle.std.specs.Prelude.{◌≡◌, ◌<◌, ◌&&◌, ℕ, Bool, false, min, max, nat_lt, Some, List, slice_get}
use Rattle.std.specs.Option.{option_map_or}
use Rattle.clmodel.specs.declared.schedule.Event.TheVariants as event
use Rattle.explain_items.specs.Deeds.{is_release_of}
use Rattle.fault_play.specs.PlayedOut.{MadeAccess}
use Rattle.fault_play.specs.declared.marks.Mark.{Mark}
use Rattle.fault_play.specs.declared.played.Played.{Played}
use Rattle.fault_play.specs.declared.played.Touch.{Touch}
use Rattle.replay.specs.declared.conflicts.Pair.{Pair}

-- the event of this number is a release of a group
pub record IsRelease (marks : List Mark) (group number : ℕ) : Type 0 where
  pub mark : Mark
  pub at : slice_get marks number ≡ Some mark
  pub is : mark.event ≡ event.Release group

-- it comes behind the event of the one access of a pair and before that of the other
pub record IsBetween (marks : List Mark) (pair : Pair) (group number : ℕ) : Type 0 where
  pub from : ℕ
  pub to : ℕ
  pub first : MadeAccess marks (min pair.first pair.second) from
  pub second : MadeAccess marks (max pair.first pair.second) to
  pub behind : from < number
  pub before : number < to
  pub releases : IsRelease marks group number

-- the last one of these
abbrev pub IsLastBetween : List Mark → Pair → ℕ → ℕ → Type 0
IsLastBetween marks pair group number = IsBetween marks pair group number × ((later : ℕ) → number < later → IsBetween marks pair group later → ⊥)

-- the same as a test, where the events of the accesses are known
abbrev pub releases_at : List Mark → ℕ → ℕ → Bool
releases_at marks group number = option_map_or (λ mark. is_release_of group mark.event) (slice_get marks number) false

abbrev pub passes_at : List Mark → ℕ → ℕ → ℕ → ℕ → Bool
passes_at marks group from to number = nat_lt from number && (nat_lt number to && releases_at marks group number)

-- a group passes a barrier between the two accesses that conflict, by the event of this number
pub record PassesBetween (played : Played) (group number : ℕ) : Type 0 where
  pub pair : Pair
  pub known : played.pair ≡ Some pair
  pub between : IsBetween played.marks.items pair group number

-- it passes the last one between them there
pub record PassesLast (played : Played) (group number : ℕ) : Type 0 where
  pub pair : Pair
  pub known : played.pair ≡ Some pair
  pub last : IsLastBetween played.marks.items pair group number

-- the event that made an access leaves this number
pub record Leaves (marks : List Mark) (access x : ℕ) : Type 0 where
  pub number : ℕ
  pub made : MadeAccess marks access number
  pub leaves : made.mark.left ≡ Some x

-- two accesses touch the same bytes
pub record TouchTheSame (touches : List Touch) (pair : Pair) : Type 0 where
  pub one : Touch
  pub other : Touch
  pub one_at : slice_get touches pair.first ≡ Some one
  pub other_at : slice_get touches pair.second ≡ Some other
  pub byte : one.byte ≡ other.byte
  pub bytes : one.bytes ≡ other.bytes

-- and leave the same number
abbrev pub LeaveOne : List Mark → Pair → Type 0
LeaveOne marks pair = (x : ℕ) × Leaves marks pair.first x × Leaves marks pair.second x

-- the two accesses that conflict do both
pub record LeaveTheSame (played : Played) : Type 0 where
  pub pair : Pair
  pub known : played.pair ≡ Some pair
  pub touch : TouchTheSame played.touches.items pair
  pub leave : LeaveOne played.marks.items pair
