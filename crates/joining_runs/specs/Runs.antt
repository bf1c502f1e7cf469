-- Groups that follow one another, joined by themselves and then to the groups below them (OpenCL 1.2, 3.2; own).
use Rattle.std.specs.Prelude.{◌≡◌, ℕ, zero, suc, ◌+◌, ◌<◌, ◌≤◌, ◌++◌, None}
use Rattle.clmodel.specs.Launch.{Launch, group_of, region_of}
use Rattle.clmodel.specs.Law.{Logged}
use Rattle.clmodel.specs.Run.{initial}
use Rattle.clmodel.specs.declared.access.Access.{Access}
use Rattle.clmodel.specs.declared.access.Object.{Object}
use Rattle.joining.specs.Parts.{Part, IsGrouped, IsPart}
use Rattle.joining.specs.Memory.{joined_memory}
use Rattle.joining.specs.Crossings.{crossing}
use Rattle.joining.specs.Join.{Joined, nothing_yet, join}
use Rattle.joining.specs.Steps.{HasGroup, IsJoined}

-- so many groups from one on, each run apart and joined in their order, with none below them and without a report: a
-- run (own)
abbrev pub IsRunOf : Launch → ℕ → ℕ → Joined → Type 0
IsRunOf launch first zero joined = joined ≡ nothing_yet launch
IsRunOf launch first (suc count) joined =
    (lower : Joined) × (part : Part) × IsRunOf launch first count lower × HasGroup launch (first + count) × IsPart launch (first + count) part
    × (joined ≡ join launch lower part) × (joined.report ≡ None)

-- the groups so far and a run of the groups behind them, none of whose accesses conflicts with theirs (own)
abbrev pub join_run : Launch → Joined → Joined → Joined
join_run launch lower run =
    record {
      events = lower.events ++ run.events;
      log = run.log ++ lower.log;
      memory = joined_memory (initial launch) lower.memory lower.log run.memory run.log;
      report = None;
    }

-- a run that is joined by itself and then to the groups below it, none of whose accesses conflicts with theirs, is
-- these groups joined one by one (own)
abbrev pub RunsAreJoined : Type 0
RunsAreJoined =
    (launch : Launch) (first count : ℕ) (lower run : Joined) → IsGrouped launch → IsJoined launch first lower → IsRunOf launch first count run
    → crossing launch lower.log run.log ≡ None → IsJoined launch (first + count) (join_run launch lower run)

-- the accesses of a run are of its items, to buffers or to its groups' local objects (3.3)
abbrev pub RunsAreWithin : Type 0
RunsAreWithin =
    (launch : Launch) (first count : ℕ) (run : Joined) → IsGrouped launch → IsRunOf launch first count run
    → (x : Access) → Logged run.log x
    → (first ≤ group_of launch x.item) × (group_of launch x.item < first + count) × (object : Object) × (x.region ≡ region_of (group_of launch x.item) object)
