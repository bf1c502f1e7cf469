use Rattle.std.proofs.Common.{[], ◌++◌}
use Rattle.std.proofs.lemmas.List.{append-nil}
use Rattle.byte_io.specs.Sink.{Puts}
use Rattle.simfile.specs.Lines.{check_line}
use Rattle.byte_io.proofs.Puts.{puts_then}
use Rattle.cli.proofs.checking.tell.Goals as goal

pub returns-clause-line : goal.returns-clause-line
returns-clause-line g c =
    let both : Puts (g.W.Write.sink c.args.writer.now) c.flush.result (g.W.Write.sink c.flush.new.self) (check_line c.args.fault ++ []) = puts_then _ [] c.flush.result c.in_ok-write_check.ensures c.flush.ensures.bytes in
    rw append-nil at both
