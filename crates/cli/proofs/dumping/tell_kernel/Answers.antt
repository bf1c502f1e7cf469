use Rattle.std.proofs.Common.{[], ◌++◌}
use Rattle.std.proofs.lemmas.List.{append-nil}
use Rattle.std.proofs.lemmas.Result.{err_from_is_err_and}
use Rattle.byte_io.specs.Sink.{Stopped}
use Rattle.byte_io.proofs.Puts.{stopped_then}
use Rattle.code_text.specs.Text.{text_of}
use Rattle.cli.proofs.dumping.tell_kernel.Goals as goal

pub returns-in_err-flush-clause-untold : goal.returns-in_err-flush-clause-untold
returns-in_err-flush-clause-untold g c =
    let p = err_from_is_err_and c.from_residual-in_err-flush.result c.from_residual-in_err-flush.ensures.1 in
    let both : Stopped (g.W.Write.sink c.args.writer.now) (g.W.Write.sink c.flush.new.self) (text_of c.in-Ok.code.instructions ++ []) = stopped_then c.in_ok-write_code.ensures c.in_err-flush.ensures.bytes in
    rw (p.1, p.2) (record { code = c.in-Ok.code; lowered = c.in-Ok.ensures.code; stopped = rw append-nil at both })
