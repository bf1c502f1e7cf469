use Rattle.std.proofs.Common.{◌++◌, [], refl}
use Rattle.std.proofs.lemmas.List.{append-nil}
use Rattle.std.proofs.lemmas.Result.{err_from_is_err_and}
use Rattle.byte_io.specs.Sink.{Stopped}
use Rattle.byte_io.proofs.Puts.{stopped_then}
use Rattle.byte_io.proofs.stream.StreamPeerPeer.tell.Goals as goal

pub returns-in_err-flush : goal.returns-in_err-flush
returns-in_err-flush g c =
    let p = err_from_is_err_and c.from_residual-in_err-flush.result c.from_residual-in_err-flush.ensures.1 in
    let both : Stopped (g.W.Write.sink c.args.self.now.writer) (g.W.Write.sink c.flush.new.self) (c.args.text.now ++ []) = stopped_then c.in_ok-write.ensures c.in_err-flush.ensures.bytes in
    rw p.1 (refl, rw append-nil at both, refl, refl)
