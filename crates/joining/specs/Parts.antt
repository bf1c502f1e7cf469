-- The groups of a launch run apart, each on the launch's first memory (OpenCL 1.2, 3.2, 5.8; own).
use Rattle.std.specs.Prelude.{◌≡◌, ℕ, suc, ◌*◌, ◌%◌, ◌<◌, ◌⊎◌, Option, None, Some, List, [], ◌∷◌}
use Rattle.clmodel.specs.Launch.{Launch, group_of}
use Rattle.clmodel.specs.Run.{State, Events, start}
use Rattle.clmodel.specs.Law.{Turn, Reports, Finishes, IsBounded}
use Rattle.clmodel.specs.declared.fault.Fault.{Fault}
use Rattle.joining.specs.Group.{plan_of, turn_of, RunsIn}

-- a launch of whole groups (5.8)
pub record IsGrouped (launch : Launch) : Type 0 where
  pub some : 0 < launch.group_size
  pub whole : launch.items % launch.group_size ≡ 0

-- the run of one group on the launch's first memory: its events, the state in which it ends, and its report if it
-- stopped (own)
pub record Part : Type 0 where
  pub events : Events
  pub end : State
  pub stopped : Option Fault

-- what a group that has run does last (own)
abbrev pub ending : Option Fault → Turn
ending None = Finishes
ending (Some fault) = Reports fault

-- a group's canonical run begins in the launch's first state, whatever other groups do (own)
abbrev pub IsPart : Launch → ℕ → Part → Type 0
IsPart launch group part = RunsIn (plan_of launch group) (start launch) part.events part.end × (turn_of (plan_of launch group) part.end ≡ ending part.stopped)

-- the parts of the groups from one on: of all, or up to and with one that stopped (own)
abbrev pub AreParts : Launch → ℕ → List Part → Type 0
AreParts launch group [] = (item : ℕ) → item < launch.items → group_of launch item < group
AreParts launch group (part ∷ parts) =
    IsPart launch group part × (group * launch.group_size < launch.items) × (((fault : Fault) × (part.stopped ≡ Some fault)) ⊎ AreParts launch (suc group) parts)

-- a group of a launch has at most one run (own)
abbrev pub OnePart : Type 0
OnePart =
    (launch : Launch) (group : ℕ) (part other : Part) → IsPart launch group part → IsPart launch group other
    → (part.events ≡ other.events) × (part.end ≡ other.end) × (part.stopped ≡ other.stopped)

-- A group of a launch whose items are bounded has a run of its own, which ends: each group alone comes to its end or to
-- a report, whatever other groups do (own).
abbrev pub PartExists : Type 0
PartExists =
    (launch : Launch) (bound : ℕ) → IsGrouped launch → IsBounded launch bound → (group : ℕ) → group * launch.group_size < launch.items
    → (part : Part) × IsPart launch group part
