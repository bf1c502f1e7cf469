use Rattle.std.proofs.Common.{ap, ◌∙◌}
use Rattle.std.proofs.lemmas.Result.{err_from_is_err_and}
use Rattle.byte_io.proofs.Puts.{stopped_more, puts_then}
use Rattle.exploring.specs.Lines.{byte_at}
use Rattle.exploring.proofs.lines.write_bytes.Goals as goal

pub returns-in_err-write_byte : goal.returns-in_err-write_byte
returns-in_err-write_byte g c =
    let p = err_from_is_err_and c.from_residual.result c.from_residual.ensures.1 in
    let one = c.byte_at.ensures ∙ ap (λ buffers. byte_at buffers c.args.apart.now.place) c.as_slice.ensures.value in
    rw p.1 (stopped_more _ (rw one at c.in_err-write_byte.ensures))

pub returns : goal.returns
returns g c =
    let one = c.byte_at.ensures ∙ ap (λ buffers. byte_at buffers c.args.apart.now.place) c.as_slice.ensures.value in
    let other = c.byte_at-2.ensures ∙ ap (λ buffers. byte_at buffers c.args.apart.now.place) c.as_slice-2.ensures.value in
    puts_then _ _ c.write_other_byte.result (rw one at c.in_ok-write_byte.ensures) (rw other at c.write_other_byte.ensures)
