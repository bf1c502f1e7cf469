-- How the runs of groups, each on the launch's first memory, are joined in the order of the groups (OpenCL 1.2, 3.2;
-- own).
use Rattle.std.specs.Prelude.{◌≡◌, Option, None, Some, List, [], ◌∷◌, ◌++◌, length}
use Rattle.std.specs.Option.{option_map}
use Rattle.clmodel.specs.Launch.{Launch}
use Rattle.clmodel.specs.Run.{Memory, State, Events, initial}
use Rattle.clmodel.specs.Law.{newest_conflict, conflict_fault, RunsClean, RunsIntoFault}
use Rattle.clmodel.specs.declared.access.Access.{Access}
use Rattle.clmodel.specs.declared.fault.Fault.{Fault}
use Rattle.joining.specs.Parts.{Part, AreParts, IsGrouped}
use Rattle.joining.specs.Memory.{joined_memory}
use Rattle.joining.specs.Crossings.{crossing, up_to}

-- what the groups so far come to: their events, the log of their accesses, the memory that they leave, and the first
-- report (own)
pub record Joined : Type 0 where
  pub events : Events
  pub log : List Access
  pub memory : Memory
  pub report : Option Fault

-- before any group (5.2.1)
abbrev pub nothing_yet : Launch → Joined
nothing_yet launch = record { events = []; log = []; memory = initial launch; report = None }

-- the groups so far and one more, where no access of it conflicts with theirs, and where one does (own)
abbrev pub join_at : Launch → Joined → Part → Option (List Access) → Joined
join_at launch lower part None =
    record {
      events = lower.events ++ part.events;
      log = part.end.log ++ lower.log;
      memory = joined_memory (initial launch) lower.memory lower.log part.end.memory part.end.log;
      report = part.stopped;
    }
join_at launch lower part (Some log) =
    record {
      events = lower.events ++ up_to (length log) part.events;
      log = log ++ lower.log;
      memory = lower.memory;
      report = option_map (conflict_fault launch) (newest_conflict launch (log ++ lower.log));
    }

-- the groups so far and one more (own)
abbrev pub join : Launch → Joined → Part → Joined
join launch lower part = join_at launch lower part (crossing launch lower.log part.end.log)

-- here the join stops if there is a report, else it goes further (own)
abbrev pub unless : Option Fault → Joined → Joined → Joined
unless None further here = further
unless (Some _) further here = here

-- the groups so far and these, up to the first report: the joined run (own)
abbrev pub join_all : Launch → Joined → List Part → Joined
join_all launch lower [] = lower
join_all launch lower (part ∷ parts) = unless (join launch lower part).report (join_all launch (join launch lower part) parts) (join launch lower part)

-- what the joined run says of the launch: its canonical run (own)
abbrev pub Answers : Launch → Joined → Option Fault → Type 0
Answers launch joined None = (end : State) × RunsClean launch joined.events end × (end.memory ≡ joined.memory)
Answers launch joined (Some fault) = (end : State) × RunsIntoFault launch joined.events end fault

-- groups run apart and joined come to the canonical run of the launch (own)
abbrev pub JoinIsCanonical : Type 0
JoinIsCanonical =
    (launch : Launch) (parts : List Part) → IsGrouped launch → AreParts launch 0 parts
    → let joined = join_all launch (nothing_yet launch) parts in Answers launch joined joined.report
