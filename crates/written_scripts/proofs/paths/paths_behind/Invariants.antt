use Rattle.std.proofs.Common.{◌-◌, length, map}
use Rattle.written_scripts.proofs.PathSteps.{IsNamed}
use Rattle.written_scripts.proofs.paths.paths_behind.Given as goal

abbrev pub invariant-loop-at : goal.invariant-loop-at
invariant-loop-at l = IsNamed (map (λ line. line.now) l.lines) l.at l.paths.items

abbrev pub decreases-loop-at : goal.decreases-loop-at
decreases-loop-at l = length l.lines - l.at
