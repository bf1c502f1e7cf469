use Rattle.std.proofs.Common.{[], ◌++◌}
use Rattle.std.proofs.lemmas.List.{append-nil}
use Rattle.byte_io.specs.Sink.{Puts}
use Rattle.byte_io.proofs.Puts.{puts_then}
use Rattle.clsim.proofs.passing.put_all.Goals as goal

pub returns-clause-whole : goal.returns-clause-whole
returns-clause-whole g c =
    let both : Puts (g.W.Write.sink c.args.writer.now) c.flush.result (g.W.Write.sink c.flush.new.self) (c.args.text.now ++ []) = puts_then _ [] c.flush.result c.in_ok-write.ensures c.flush.ensures.bytes in
    rw append-nil at both
