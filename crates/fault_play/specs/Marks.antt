-- Events played with where their items stand, and with the numbers that their accesses find and leave (own; the events
-- are those of OpenCL 1.2, sections 3.2 and 6.12.8).
use Rattle.std.specs.Prelude.{◌≡◌, ℕ, ◌*◌, ◌≤◌, ◌⊎◌, Bool, true, false, Option, None, Some, List, [], ◌∷◌, ◌++◌, map}
use Rattle.std.specs.Option.{IfSome}
use Rattle.clnum.specs.Integer.{Integer}
use Rattle.clmodel.specs.Cells.{byte_count, number}
use Rattle.clmodel.specs.Launch.{Launch}
use Rattle.clmodel.specs.Run.{State, Events, Memory, next_action, step}
use Rattle.clmodel.specs.declared.access.Access.{Access}
use Rattle.clmodel.specs.declared.action.Action.TheVariants as action
use Rattle.clmodel.specs.declared.action.Answer.{Answer}
use Rattle.clmodel.specs.declared.schedule.Event.{Event}
use Rattle.clmodel.specs.declared.schedule.Event.TheVariants as event
use Rattle.item_step.specs.Dividing.{dividend_of}
use Rattle.item_step.specs.Running.{Running, Arrives, Makes, action_of}
use Rattle.replay.specs.declared.slot.Stand.{Stand}
use Rattle.fault_play.specs.declared.marks.Mark.{Mark}

-- the item of which an event tells where it stands: of a release, the first of the group (own)
abbrev pub item_of : ℕ → Event → ℕ
item_of size (event.Item item) = item
item_of size (event.Release group) = group * size

-- A machine is that of an item in a state. It is the one that the code's instructions come to, one after the other,
-- from the item's start with the answers that the state has, and the instruction where it stands makes the item's next
-- action, whatever follows it. By reading there is only one, where the code is verified: instructions leave no choice.
-- From there on it acts as the item does, whatever it is answered (own, on OpenCL 1.2, 3.2). `started` has the machine
-- of each item at its start.
pub record IsMachineOf (launch : Launch) (started : ℕ → Running) (state : State) (item : ℕ) (running : Running) : Type 0 where
  pub arrives : Arrives (started item) (state.answers item) running
  pub makes : Makes running (next_action launch state item)
  pub acts : (answers : List Answer) → action_of running answers ≡ launch.next item (state.answers item ++ answers)

-- the item's machine stands at a place after these turns of loops; no place is told of an item that is at its end, and
-- where there is no such item (own)
abbrev pub ActsFrom : Launch → (ℕ → Running) → State → ℕ → Option Stand → Type 0
ActsFrom launch started state item None = (next_action launch state item ≡ action.End) ⊎ (launch.items ≤ item)
ActsFrom launch started state item (Some stand) =
    (running : Running) × (running.state.place ≡ stand.place) × (running.state.counters ≡ stand.turns) × IsMachineOf launch started state item running

-- the left operand of the division where the item's machine stands, if its instruction there is one; none is told of
-- an item that is at its end, and where there is no such item (own, on C99 6.5.5)
abbrev pub Divides : Launch → (ℕ → Running) → State → ℕ → Option Integer → Type 0
Divides launch started state item dividend =
    ((dividend ≡ None) × ((next_action launch state item ≡ action.End) ⊎ (launch.items ≤ item)))
    ⊎ ((running : Running) × IsMachineOf launch started state item running × (dividend_of running ≡ dividend))

-- the events of marks (own)
abbrev pub events_in : List Mark → List Event
events_in marks = map (λ mark. mark.event) marks

-- the number that a memory has at the bytes of the access by which an event led from a state to another (C99 6.2.6.1)
abbrev pub HasThere : State → State → Memory → ℕ → Type 0
HasThere state next memory x = (access : Access) × (next.log ≡ access ∷ state.log) × (number (memory access.region) access.first (byte_count access.width) ≡ Some x)

-- The numbers of a mark, where they are known: what the bytes of its access held before the event, which a load and an
-- atomic function give (6.12.11: "returns old"), and what they hold behind it.
pub record IsCounted (state next : State) (mark : Mark) : Type 0 where
  pub found : IfSome mark.found (HasThere state next state.memory)
  pub left : IfSome mark.left (HasThere state next next.memory)

-- marks lead from a state to another: each event is possible in its turn, its item acts from where it stands, and its
-- numbers are those of its access (own)
abbrev pub Lead : Launch → (ℕ → Running) → ℕ → State → List Mark → State → Type 0
Lead launch started size state [] end = state ≡ end
Lead launch started size state (mark ∷ marks) end =
    ActsFrom launch started state (item_of size mark.event) mark.stand × (next : State) × (step launch state mark.event ≡ Some next) × IsCounted state next mark
    × Lead launch started size next marks end

-- the marks of the events before the first that isn't possible in its turn (own)
pub record LeadUpTo (launch : Launch) (started : ℕ → Running) (size : ℕ) (state : State) (events : Events) (made : List Mark) : Type 0 where
  pub end : State
  pub next : Event
  pub rest : Events
  pub split : events ≡ events_in made ++ next ∷ rest
  pub led : Lead launch started size state made end
  pub never : step launch end next ≡ None

-- events were played one after another, their marks were added, and what is kept tells of the state that they lead to;
-- or one of them isn't possible in its turn, and the marks of those before it were added (own)
abbrev pub AreMarked : Launch → (ℕ → Running) → ℕ → State → Events → List Mark → List Mark → (State → Type 0) → Bool → Type 0
AreMarked launch started size state events old new at true =
    (made : List Mark) × (end : State) × (new ≡ old ++ made) × (events_in made ≡ events) × Lead launch started size state made end × at end
AreMarked launch started size state events old new at false = (made : List Mark) × (new ≡ old ++ made) × LeadUpTo launch started size state events made
