-- The ordered run of a launch: the canonical order over one memory, in which what depends on the order of atomic
-- operations is no fault.
-- Numbers of sections are those of OpenCL 1.2; "own" is what this project decided.
use Rattle.std.specs.Prelude.{◌≡◌, ℕ, Bool, true, false, not, Option, None, Some, List, [], ◌∷◌}
use Rattle.clmodel.specs.Cells.{byte_count}
use Rattle.clmodel.specs.Launch.{Launch, conflict}
use Rattle.clmodel.specs.Run.{State, Events, start, step, next_action, lowest}
use Rattle.clmodel.specs.Law.{Logged, Turn, Makes, Reports, Finishes, conflict_from, unended_turn, has_ended, conflict_turn}
use Rattle.clmodel.specs.declared.access.Access.{Access}
use Rattle.clmodel.specs.declared.access.Clash.{Clash}
use Rattle.clmodel.specs.declared.access.Clash.TheVariants.{Race, Order}
use Rattle.clmodel.specs.declared.access.Conflict as conflict_type
use Rattle.clmodel.specs.declared.fault.Fault.{Fault}
use Rattle.clmodel.specs.declared.fault.Fault.TheVariants as fault
use Rattle.clmodel.specs.declared.schedule.Event.{Event}

-- a conflict where it is a race: what depends on the order of atomic operations is none (3.3.1, 6.12.11)
abbrev pub only_race : Option Clash → Option Clash
only_race None = None
only_race (Some Race) = Some Race
only_race (Some Order) = None

-- how two accesses of a launch race on a byte, if they do (3.3.1)
abbrev pub race : Launch → Access → Access → ℕ → Option Clash
race launch x y byte = only_race (conflict launch x y byte)

-- the race of the newest access: on its lowest byte that has one, there with the earliest access (own)
abbrev pub newest_race : Launch → List Access → Option conflict_type.Conflict
newest_race launch [] = None
newest_race launch (x ∷ earlier) = conflict_from (race launch) x earlier x.first (byte_count x.width)

-- What the ordered run does in a state (own): a race of the newest access is reported; else the group of the lowest
-- item that hasn't ended goes on, as in the canonical run.
unfoldable pub ordered_turn : Launch → State → Turn
ordered_turn launch state =
    conflict_turn launch (newest_race launch state.log)
    (unended_turn launch state (lowest (λ item. not (has_ended (next_action launch state item))) launch.items))

-- the ordered run from one state to another makes these events (own)
abbrev pub OrderedTo : Launch → State → Events → State → Type 0
OrderedTo launch state [] end = state ≡ end
OrderedTo launch state (event ∷ events) end =
    (next : State) × (ordered_turn launch state ≡ Makes event) × (step launch state event ≡ Some next) × OrderedTo launch next events end

-- the ordered run of a launch makes these events and ends here with no report (own)
abbrev pub RunsOrdered : Launch → Events → State → Type 0
RunsOrdered launch events end = OrderedTo launch (start launch) events end × (ordered_turn launch end ≡ Finishes)

-- the ordered run of a launch makes these events and ends here with this report (own)
abbrev pub OrderedIntoFault : Launch → Events → State → Fault → Type 0
OrderedIntoFault launch events end f = OrderedTo launch (start launch) events end × (ordered_turn launch end ≡ Reports f)

-- the ordered run ends in a state (own)
abbrev pub NoEvent : Launch → State → Type 0
NoEvent launch state = (event : Event) → ordered_turn launch state ≡ Makes event → ⊥

-- Two accesses of a state's log met whose order counts: they conflict as order (6.12.11, own). Each is an atomic
-- operation, and one at least answers an old number or is of another class than the other.
abbrev pub HaveMet : Launch → State → Type 0
HaveMet launch state = (x y : Access) × (byte : ℕ) × Logged state.log x × Logged state.log y × (conflict launch x y byte ≡ Some Order)

-- a conflict is of kind order (own)
abbrev pub is_order_clash : Clash → Bool
is_order_clash Race = false
is_order_clash Order = true

-- a fault is a conflict of kind order (own)
abbrev pub is_order : Fault → Bool
is_order (fault.Conflict clash _ _ _ _ _ _) = is_order_clash clash
is_order _ = false
