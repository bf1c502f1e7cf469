use Rattle.std.proofs.Common.{◌≡◌, map, take}
use Rattle.written_scripts.specs.Lines.{lines_text}
use Rattle.written_scripts.proofs.lines.lines_text.Given as goal

abbrev pub invariant-loop-index : goal.invariant-loop-index
invariant-loop-index l = l.text.items ≡ lines_text (take l.index (map (λ line. line.now) l.lines))
