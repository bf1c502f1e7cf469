-- What orders of a launch have shown (own, on OpenCL 1.2, 3.2, 3.3.1 and 6.12.11).
use Rattle.std.specs.Prelude.{◌≡◌, ⊤, false, Option, None, Some, [], slice_index_or}
use Rattle.clmodel.specs.Launch.{Launch}
use Rattle.clmodel.specs.Law.{Reaches}
use Rattle.clmodel.specs.Outcome.{events_of}
use Rattle.ordered_runs.specs.Ordered.{is_order}
use Rattle.explore_runs.specs.Apart.{IsFirstApart}
use Rattle.explore_runs.specs.Orders.{IsLeft}
use Rattle.exploring.specs.declared.findings.ApartOrders.{ApartOrders}
use Rattle.exploring.specs.declared.findings.Findings.{Findings}
use Rattle.exploring.specs.declared.findings.ShownFault.{ShownFault}

-- the schedule leads the launch to a state that shows the fault, which is no conflict of kind order (6.12.11)
abbrev pub IsShown : Launch → Option ShownFault → Type 0
IsShown launch None = ⊤
IsShown launch (Some shown) = Reaches launch (events_of shown.schedule) shown.fault × (is_order shown.fault ≡ false)

-- both schedules are complete and leave these bytes, which differ first at this place, in the buffer of this name
abbrev pub IsApart : Launch → Option ApartOrders → Type 0
IsApart launch None = ⊤
IsApart launch (Some apart) =
    IsLeft launch apart.one × IsLeft launch apart.other × IsFirstApart apart.one.buffers.items apart.other.buffers.items apart.place
    × (apart.buffer ≡ slice_index_or launch.buffer_names apart.place.buffer [])

-- what is told of the orders of a launch is so; of orders that show neither, nothing is said
pub record AreFound (launch : Launch) (findings : Findings) : Type 0 where
  pub shown : IsShown launch findings.shown
  pub apart : IsApart launch findings.apart
