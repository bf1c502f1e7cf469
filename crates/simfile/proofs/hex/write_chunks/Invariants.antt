use Rattle.std.proofs.Common.{◌*◌, take}
use Rattle.std.specs.List.{flat_map}
use Rattle.byte_io.specs.Sink.{Wrote}
use Rattle.simfile.specs.Fields.{byte_text}
use Rattle.simfile.proofs.hex.write_chunks.Given as goal

abbrev pub invariant-loop-index : goal.invariant-loop-index
invariant-loop-index g l = Wrote (g.W.Write.sink l.initial.writer) (g.W.Write.sink l.writer) (flat_map byte_text (take (256 * l.index) l.bytes))
