use Rattle.std.proofs.Common.{◌≡◌, ◌+◌, ◌-◌, ◌<◌, ◌≤◌, ◌^◌, drop}
use Rattle.shortening.specs.Searches.{event_count}
use Rattle.shortening.proofs.runs.event_count.Given as goal

abbrev pub invariant-loop-run : goal.invariant-loop-run
invariant-loop-run l = record {
  least : l.total + event_count (drop l.run-index l.runs) ≤ event_count l.runs;
  exact : l.total < 2 ^ 64 - 1 → l.total + event_count (drop l.run-index l.runs) ≡ event_count l.runs;
}
