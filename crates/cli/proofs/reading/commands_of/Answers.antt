use Rattle.std.proofs.Common.{sym, subst, ℕ, List}
use Rattle.std.proofs.lemmas.Result.{err_from_is_err_and}
use Rattle.byte_io.specs.Source.{Are}
use Rattle.cli.proofs.Readings.{no_script}
use Rattle.cli.proofs.reading.commands_of.Goals as goal

pub returns-clause-read : goal.returns-clause-read
returns-clause-read g c =
    let read = subst (λ (l : List ℕ). Are (g.R.Read.rest c.args.reader.now) l) (sym c.as_slice.ensures.value) c.in_ok-bytes.ensures.read in
    record { bytes = c.as_slice.result.now; read = read; script = c.in_ok-script.ensures.found }

pub returns-in_err-script-clause-failed : goal.returns-in_err-script-clause-failed
returns-in_err-script-clause-failed g c =
    let p = err_from_is_err_and c.from_residual-in_err-script.result c.from_residual-in_err-script.ensures.1 in
    let read = subst (λ (l : List ℕ). Are (g.R.Read.rest c.args.reader.now) l) (sym c.as_slice.ensures.value) c.in_ok-bytes.ensures.read in
    rw (p.1, p.2) (no_script (g.R.Read.rest c.args.reader.now) _ _ c.as_slice.result.now _ read c.in_err-script.ensures.bad)
