-- Laws of ordered runs: what one is, and how it stands to the canonical run. All of it is this project's own.
use Rattle.std.specs.Prelude.{◌≡◌, ℕ, true, false, ◌⊎◌}
use Rattle.clmodel.specs.Launch.{Launch}
use Rattle.clmodel.specs.Run.{State, Events, start, left}
use Rattle.clmodel.specs.Law.{Makes, RunsClean, RunsIntoFault, IsBounded, IsPossible, Leaves, Reaches}
use Rattle.clmodel.specs.declared.fault.Fault.{Fault}
use Rattle.clmodel.specs.declared.schedule.Event.{Event}
use Rattle.ordered_runs.specs.Ordered.{ordered_turn, OrderedTo, RunsOrdered, OrderedIntoFault, NoEvent, HaveMet, is_order}

-- the ordered run never sticks: the event that it makes is possible
abbrev pub OrderedNeverSticks : Type 0
OrderedNeverSticks = (launch : Launch) (state : State) (event : Event) → ordered_turn launch state ≡ Makes event → IsPossible launch state event

-- the ordered run of a launch with a bound ends
abbrev pub OrderedEnds : Type 0
OrderedEnds =
    (launch : Launch) (bound : ℕ) → IsBounded launch bound
    → ((events : Events) × (end : State) × RunsOrdered launch events end) ⊎ ((events : Events) × (end : State) × (f : Fault) × OrderedIntoFault launch events end f)

-- a launch has one ordered run
abbrev pub OneOrderedRun : Type 0
OneOrderedRun =
    (launch : Launch) (begin end other_end : State) (events others : Events)
    → OrderedTo launch begin events end → NoEvent launch end → OrderedTo launch begin others other_end → NoEvent launch other_end → (events ≡ others) × (end ≡ other_end)

-- an ordered run without a report is one interleaving: its schedule is a complete one, and leaves what the run leaves
abbrev pub OrderedIsInterleaving : Type 0
OrderedIsInterleaving = (launch : Launch) (events : Events) (end : State) → RunsOrdered launch events end → Leaves launch events (left launch end)

-- the schedule of an ordered run with a report leads to a state that shows it, and it is no conflict of kind order
abbrev pub OrderedReportIsReached : Type 0
OrderedReportIsReached =
    (launch : Launch) (events : Events) (end : State) (f : Fault) → OrderedIntoFault launch events end f → Reaches launch events f × (is_order f ≡ false)

-- an ordered run without a report, in which no two accesses met, is the canonical run: the launch is clean
abbrev pub UnmetIsCanonical : Type 0
UnmetIsCanonical = (launch : Launch) (events : Events) (end : State) → RunsOrdered launch events end → (HaveMet launch end → ⊥) → RunsClean launch events end

-- a canonical run without a report is the ordered run, and no two accesses met in it
abbrev pub CanonicalIsUnmet : Type 0
CanonicalIsUnmet = (launch : Launch) (events : Events) (end : State) → RunsClean launch events end → RunsOrdered launch events end × (HaveMet launch end → ⊥)

-- a canonical run whose report is no conflict of kind order is the ordered run, with its report
abbrev pub OtherReportsStay : Type 0
OtherReportsStay =
    (launch : Launch) (events : Events) (end : State) (f : Fault) → RunsIntoFault launch events end f → is_order f ≡ false → OrderedIntoFault launch events end f

-- a canonical run whose report is a conflict of kind order is where the ordered run begins, and two accesses met there
abbrev pub OrderGoesOn : Type 0
OrderGoesOn =
    (launch : Launch) (events : Events) (end : State) (f : Fault) → RunsIntoFault launch events end f → is_order f ≡ true
    → OrderedTo launch (start launch) events end × HaveMet launch end

-- where the canonical run's report is a conflict of kind order, two accesses met in an ordered run without a report
abbrev pub OrderIsMet : Type 0
OrderIsMet =
    (launch : Launch) (events others : Events) (end other_end : State) (f : Fault) → RunsIntoFault launch events end f → is_order f ≡ true
    → RunsOrdered launch others other_end → HaveMet launch other_end

-- the ordered run ends without a report, after two accesses that met
abbrev pub EndsMet : Launch → Type 0
EndsMet launch = (events : Events) × (end : State) × RunsOrdered launch events end × HaveMet launch end

-- the ordered run ends with a report
abbrev pub EndsInFault : Launch → Type 0
EndsInFault launch = (events : Events) × (end : State) × (f : Fault) × OrderedIntoFault launch events end f

-- The ordered run of a launch with a bound ends in one of three ways: as the canonical run without a report, so that
-- the launch is clean; without a report, after two accesses that met; or with a report.
abbrev pub EndsInOneOfThree : Type 0
EndsInOneOfThree =
    (launch : Launch) (bound : ℕ) → IsBounded launch bound
    → ((events : Events) × (end : State) × RunsClean launch events end) ⊎ (EndsMet launch ⊎ EndsInFault launch)
