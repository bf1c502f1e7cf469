use Rattle.std.proofs.Common.{take}
use Rattle.byte_io.specs.Sink.{Wrote}
use Rattle.code_text.specs.Text.{text_of}
use Rattle.code_text.proofs.dumping.write_lines.Given as goal

abbrev pub invariant-loop-place : goal.invariant-loop-place
invariant-loop-place g l = Wrote (g.W.Write.sink l.initial.writer) (g.W.Write.sink l.writer) (text_of (take l.place l.instructions))
