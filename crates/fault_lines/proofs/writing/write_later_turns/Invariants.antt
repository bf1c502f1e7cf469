use Rattle.std.proofs.Common.{take}
use Rattle.std.specs.List.{flat_map}
use Rattle.byte_io.specs.Sink.{Wrote}
use Rattle.fault_lines.specs.Text.{later_turn_text}
use Rattle.fault_lines.proofs.writing.write_later_turns.Given as goal

abbrev pub invariant-loop-turn : goal.invariant-loop-turn
invariant-loop-turn g l = Wrote (g.W.Write.sink l.initial.writer) (g.W.Write.sink l.writer) (flat_map later_turn_text (take l.turn-index l.turns))
