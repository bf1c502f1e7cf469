-- How a launch ends, as code tells it (own, on OpenCL 1.2, 3.2).
use Rattle.std.specs.Prelude.{◌≡◌, Some, map}
use Rattle.clmodel.specs.Launch.{Launch}
use Rattle.clmodel.specs.Law.{RunsClean}
use Rattle.clmodel.specs.Outcome.{Concludes}
use Rattle.clmodel.specs.Run.{State, Events, left}
use Rattle.clmodel.specs.declared.outcome.Outcome.TheVariants as outcome
use Rattle.spaces.specs.Changes.{all_with_changes}
use Rattle.group_join.specs.declared.launch_end.LaunchEnd.{LaunchEnd}
use Rattle.group_join.specs.declared.launch_end.LaunchEnd.TheVariants.{Clean, Faulted}

-- the canonical run ends clean, and the launch's buffers with these changes are what it leaves; or it makes the events
-- of this schedule and ends with this report (3.2)
abbrev pub EndsAs : Launch → LaunchEnd → Type 0
EndsAs launch (Clean changes) =
    (events : Events) × (end : State) × RunsClean launch events end × (left launch end ≡ map (λ bytes. map Some bytes) (all_with_changes launch.buffers changes.items))
EndsAs launch (Faulted fault schedule) = Concludes launch (outcome.Faulted fault schedule)
