use Rattle.std.proofs.Common.{◌-◌, length, map}
use Rattle.written_scripts.proofs.LineSteps.{IsAt}
use Rattle.written_scripts.proofs.turning.turned.Given as goal

abbrev pub invariant-loop-at : goal.invariant-loop-at
invariant-loop-at l = IsAt l.files (map (λ line. line.now) l.lines) l.at l.plain

abbrev pub decreases-loop-at : goal.decreases-loop-at
decreases-loop-at l = length l.lines - l.at
