use Rattle.std.specs.List.{flat_map}
use Rattle.byte_io.specs.Sink.{Wrote}
use Rattle.showing.specs.Numbers.{elements, number_text}
use Rattle.showing.proofs.numbers.write_numbers.Given as goal

abbrev pub invariant-loop-index : goal.invariant-loop-index
invariant-loop-index g l = Wrote (g.W.Write.sink l.initial.writer) (g.W.Write.sink l.writer) (flat_map number_text (elements l.kind l.bytes l.index))
