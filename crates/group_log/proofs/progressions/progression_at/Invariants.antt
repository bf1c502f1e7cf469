use Rattle.std.proofs.Common.{◌≡◌, ◌-◌, ◌<◌, ◌≤◌, ◌⊎◌, length, get_or}
use Rattle.group_log.specs.declared.progression.Progression.{Progression}
use Rattle.group_log.proofs.progressions.progression_at.Given as goal

abbrev pub invariant-loop-low : goal.invariant-loop-low
invariant-loop-low l = record {
  order : l.low < l.high;
  within : l.high ≤ length l.progressions;
  from : (d : Progression) → (get_or l.progressions l.low d).start ≤ l.i;
  before : (l.high ≡ length l.progressions) ⊎ ((d : Progression) → l.i < (get_or l.progressions l.high d).start);
}

abbrev pub decreases-loop-low : goal.decreases-loop-low
decreases-loop-low l = l.high - l.low
