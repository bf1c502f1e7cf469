use Rattle.std.proofs.Common.{◌≡◌, map, drop}
use Rattle.written_scripts.specs.Lines.{first_end}
use Rattle.written_scripts.proofs.Steps.{further}
use Rattle.written_scripts.proofs.lines.first_end.Given as goal

abbrev pub invariant-loop-index : goal.invariant-loop-index
invariant-loop-index l = further l.index (first_end l.word (drop l.index (map (λ line. line.now) l.lines))) ≡ first_end l.word (map (λ line. line.now) l.lines)
