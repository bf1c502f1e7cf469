use Rattle.std.proofs.Common.{ℕ, List, subst}
use Rattle.std.proofs.lemmas.Result.{err_from_is_err_and}
use Rattle.byte_io.specs.Sink.{Stopped}
use Rattle.wide_text.proofs.Failing.{no_script}
use Rattle.wide_text.proofs.widened.widen.Goals as goal

pub returns-in_err-text-clause-failed : goal.returns-in_err-text-clause-failed
returns-in_err-text-clause-failed g c =
    let p = err_from_is_err_and c.from_residual.result c.from_residual.ensures.1 in
    rw (p.1, p.2) (no_script c.args.configuration c.args.script.now c.args.written c.args.format _ _ c.in_err-text.ensures.failed)

pub returns-in_err-tell-clause-failed : goal.returns-in_err-tell-clause-failed
returns-in_err-tell-clause-failed g c =
    let told = c.in_ok-text.field-0 in
    let p = err_from_is_err_and c.from_residual-in_err-tell.result c.from_residual-in_err-tell.ensures.1 in
    let stopped = subst (λ (t : List ℕ). Stopped (g.W.Write.sink c.args.writer.now) (g.W.Write.sink c.tell.new.writer) t) c.as_slice.ensures.value c.in_err-tell.ensures.text in
    rw (p.1, p.2) (told.end, told.text.items, c.in_ok-text.ensures.told, stopped)
