-- Groups that run apart, and what their results come to.
-- Numbers of sections are those of OpenCL 1.2; "own" is what this project decided.
use Rattle.std.specs.Prelude.{◌≡◌, ◌⊎◌, ℕ, suc, ◌<◌, ◌≤◌, List, [], ◌∷◌, ◌++◌, Bool, true, false, All, Any, Option, Some, None, slice_get}
use Rattle.atomic_table.specs.Seated.{TableId}
use Rattle.atomic_table.specs.declared.shared.Seat.{Seat}
use Rattle.workers_draw.specs.declared.worker.Worker.{Worker}
use Rattle.workers_draw.specs.Board.{Has, hand}
use Rattle.workers_draw.specs.declared.board.Hand.{Hand}

module _ {T : Type 0} (count : ℕ) (gives : ℕ → T → Type 0) where
  -- the result of some group (3.2, 5.8)
  abbrev pub IsOfSome : T → Type 0
  IsOfSome output = (group : ℕ) × (group < count) × gives group output

  -- What a worker did: of each group that it drew it has the result, or the group lies above a least fault that it saw
  -- (own).
  pub record Worked (v : Hand) (outputs : List T) : Type 0 where
    pub each : All IsOfSome outputs
    pub covered : (group : ℕ) → Has v.drawn group → group < count → Any (gives group) outputs ⊎ ((least : ℕ) × Has v.seen least × (least < group))

-- a worker that is done: it drew a number past the end (own)
abbrev pub IsDone : ℕ → Hand → Type 0
IsDone count v = (last : ℕ) × Has v.drawn last × (count ≤ last)

module _ {T : Type 0} (count : ℕ) (gives : ℕ → T → Type 0) (is_stopped : T → Bool) where
  -- results of the groups from one on, in their order: of all (5.8), or up to and with one that stopped (own)
  abbrev pub AreResults : ℕ → List T → Type 0
  AreResults group [] = count ≤ group
  AreResults group (output ∷ outputs) =
      gives group output × (((is_stopped output ≡ true) × (outputs ≡ [])) ⊎ ((is_stopped output ≡ false) × AreResults (suc group) outputs))

module _ {T : Type 0} where
  -- a group's result is there (own)
  abbrev pub IsThere : List (Option T) → ℕ → Type 0
  IsThere places group = (output : T) × (slice_get places group ≡ Some (Some output))

  -- each result stands at its group's place (own)
  abbrev pub InPlace : (ℕ → T → Type 0) → List (Option T) → Type 0
  InPlace gives places = (group : ℕ) (output : T) → slice_get places group ≡ Some (Some output) → gives group output

-- each group that the seat knows to stop does (own)
abbrev pub AreStops : (ℕ → Type 0) → Hand → Type 0
AreStops stops v = (e : ℕ) → Has v.stopped e → stops e

-- a seat has learned at most that some further groups stop (own)
pub record IsNoted (stops : ℕ → Type 0) (v w : Hand) : Type 0 where
  pub parts : w.parts ≡ v.parts
  pub drawn : w.drawn ≡ v.drawn
  pub seen : w.seen ≡ v.seen
  pub stopped : AreStops stops v → AreStops stops w

module _ {T : Type 0} (gives : ℕ → T → Type 0) (group : ℕ) where
  -- the group's result, or none where it lies above this least fault (own)
  abbrev pub IsFound : ℕ → Option T → Type 0
  IsFound least (Some output) = gives group output
  IsFound least None = least < group

-- a seat has seen the least fault, and has the group's result unless the group lies above it (own)
abbrev pub IsTried : {T : Type 0} → (ℕ → T → Type 0) → (ℕ → Type 0) → ℕ → Hand → Hand → Option T → Type 0
IsTried gives stops group v w found = (least : ℕ) × IsNoted stops (hand v.parts v.drawn (v.seen ++ least ∷ []) v.stopped) w × IsFound gives group least found

module _ {T : Type 0} (count : ℕ) (gives : ℕ → T → Type 0) (stops : ℕ → Type 0) where
  -- a worker that has done its part at the table (own)
  pub record DidWork (table : TableId) (parts : ℕ) (w : Worker T) : Type 0 where
    pub at : w.seat.table_id ≡ table
    pub empty_handed : w.seat.me.1 ≡ []
    pub share : w.seat.me.0.parts ≡ parts
    pub worked : Worked count gives w.seat.me.0 w.outputs.items
    pub right : AreStops stops w.seat.me.0
    pub done : IsDone count w.seat.me.0

-- a seat that has drawn nothing (own)
abbrev pub IsFresh : TableId → ℕ → Seat ℕ Hand → Type 0
IsFresh table parts seat = (seat.table_id ≡ table) × (seat.me ≡ (hand parts [] [] [], []))

-- of each group the result is there, or a group below it stops (own)
abbrev pub AreComplete : {T : Type 0} → ℕ → (ℕ → Type 0) → List (Option T) → Type 0
AreComplete count stops places = (group : ℕ) → group < count → IsThere places group ⊎ ((least : ℕ) × (least < group) × stops least)
