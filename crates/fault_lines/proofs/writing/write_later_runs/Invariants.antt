use Rattle.std.proofs.Common.{take}
use Rattle.std.specs.List.{flat_map}
use Rattle.byte_io.specs.Sink.{Wrote}
use Rattle.fault_lines.specs.Text.{later_run_text}
use Rattle.fault_lines.proofs.writing.write_later_runs.Given as goal

abbrev pub invariant-loop-run : goal.invariant-loop-run
invariant-loop-run g l = Wrote (g.W.Write.sink l.initial.writer) (g.W.Write.sink l.writer) (flat_map later_run_text (take l.run-index l.runs))
