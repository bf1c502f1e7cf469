-- What is known of a launch some of whose orders were played (own).
use Rattle.std.specs.Prelude.{◌≡◌, false, Option, None, Some}
use Rattle.clmodel.specs.Launch.{Launch}
use Rattle.clmodel.specs.Law.{Reaches}
use Rattle.clmodel.specs.Outcome.{events_of, IsMerged}
use Rattle.ordered_runs.specs.Ordered.{is_order}
use Rattle.explore_runs.specs.Apart.{IsFirstApart}
use Rattle.explore_runs.specs.Orders.{IsLeft}
use Rattle.explore_runs.specs.declared.explorer.Explorer.{Explorer}
use Rattle.explore_runs.specs.declared.explorer.Found.{Found}
use Rattle.explore_runs.specs.declared.explorer.Left.{Left}
use Rattle.explore_runs.specs.declared.explorer.Left.TheVariants as left

-- what complete orders left: one of them these bytes, or two of them bytes that differ first at this place
abbrev pub AreLeft : Launch → Left → Type 0
AreLeft launch left.Nothing = Unit {0}
AreLeft launch (left.Same one) = IsLeft launch one
AreLeft launch (left.Apart one other place) = IsLeft launch one × IsLeft launch other × IsFirstApart one.buffers.items other.buffers.items place

-- a schedule leads to a state that shows a fault, which is no conflict of kind order (6.12.11)
abbrev pub IsFound : Launch → Option Found → Type 0
IsFound launch None = Unit {0}
IsFound launch (Some found) = Reaches launch (events_of found.schedule) found.fault × (is_order found.fault ≡ false) × IsMerged found.schedule

-- what is kept of the orders of a launch is so
pub record Explores (launch : Launch) (explorer : Explorer) : Type 0 where
  pub left : AreLeft launch explorer.left
  pub found : IsFound launch explorer.found
