-- What a program that makes the ordered run of a launch answers (own).
use Rattle.std.specs.Prelude.{◌≡◌, false}
use Rattle.clmodel.specs.Launch.{Launch}
use Rattle.clmodel.specs.Law.{Reaches}
use Rattle.clmodel.specs.Outcome.{events_of, IsMerged}
use Rattle.clmodel.specs.Run.{State, left}
use Rattle.ordered_runs.specs.Ordered.{RunsOrdered, OrderedIntoFault, is_order}
use Rattle.ordered_play.specs.declared.ordered.OrderedEnd.{OrderedEnd}
use Rattle.ordered_play.specs.declared.ordered.OrderedEnd.TheVariants.{Ended, Faulted}

-- The ordered run makes the events of this schedule, which is written in runs as long as can be (own). It ends with no
-- report, and leaves this in the buffers (5.2.2); or it ends with this report, which the schedule leads to and which is
-- no conflict of kind order.
abbrev pub IsOrderedEnd : Launch → OrderedEnd → Type 0
IsOrderedEnd launch (Ended schedule buffers) =
    (end : State) × RunsOrdered launch (events_of schedule) end × (left launch end ≡ buffers.items) × IsMerged schedule
IsOrderedEnd launch (Faulted fault schedule) =
    ((end : State) × OrderedIntoFault launch (events_of schedule) end fault) × Reaches launch (events_of schedule) fault × (is_order fault ≡ false) × IsMerged schedule
