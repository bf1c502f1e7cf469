use Rattle.std.proofs.Common.{[], ◌++◌}
use Rattle.std.proofs.lemmas.List.{append-nil}
use Rattle.byte_io.specs.Sink.{Puts}
use Rattle.byte_io.proofs.Puts.{puts_then}
use Rattle.exploring.specs.Lines.{told_text}
use Rattle.exploring.proofs.lines.tell.Goals as goal

pub returns : goal.returns
returns g c =
    let text = told_text c.args.spot c.args.is_launch c.args.how.now c.args.reply.now in
    let both : Puts (g.W.Write.sink c.args.writer.now) c.flush.result (g.W.Write.sink c.flush.new.self) (text ++ []) = puts_then _ [] c.flush.result c.in_ok-write_told.ensures c.flush.ensures.bytes in
    rw append-nil at both
