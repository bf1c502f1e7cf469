use Rattle.std.proofs.Common.{◌≡◌, ◌∙◌, ap, decimal, nat_abs}
use Rattle.std.proofs.lemmas.Result.{err_from_is_err_and}
use Rattle.byte_io.proofs.Puts.{stopped_more, puts_then}
use Rattle.clsyntax_print.proofs.tokens.write_number.Goals as goal

pub returns-in_err-write : goal.returns-in_err-write
returns-in_err-write g c =
    let p = err_from_is_err_and c.from_residual.result c.from_residual.ensures.1 in
    let digits : c.as_bytes.result.now ≡ decimal (nat_abs c.args.value.number) = c.as_bytes.ensures.value ∙ (c.format.ensures.text ∙ ap decimal c.magnitude.ensures) in
    rw p.1 (stopped_more _ (rw digits at c.in_err-write.ensures))

pub returns : goal.returns
returns g c =
    let digits : c.as_bytes.result.now ≡ decimal (nat_abs c.args.value.number) = c.as_bytes.ensures.value ∙ (c.format.ensures.text ∙ ap decimal c.magnitude.ensures) in
    puts_then _ _ c.write-2.result (rw digits at c.in_ok-write.ensures) (rw (c.as_bytes-2.ensures.value, c.suffix.ensures, c.kind.ensures) at c.write-2.ensures)
