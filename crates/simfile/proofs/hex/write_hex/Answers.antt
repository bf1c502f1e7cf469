use Rattle.std.proofs.Common.{◌*◌, ◌/◌, length, arith}
use Rattle.std.proofs.lemmas.Result.{err_from_is_err_and}
use Rattle.simfile.specs.Fields.{byte_text}
use Rattle.byte_io.proofs.Puts.{stopped_more, puts_then}
use Rattle.simfile.proofs.FieldLemmas.{flat_rest}
use Rattle.simfile.proofs.hex.write_hex.Goals as goal

pub returns-in_err-write_chunks : goal.returns-in_err-write_chunks
returns-in_err-write_chunks g c =
    let p = err_from_is_err_and c.from_residual.result c.from_residual.ensures.1 in
    rw (p.1, flat_rest byte_text (256 * (length c.args.bytes.now / 256)) c.args.bytes.now (omega arith)) (stopped_more _ c.in_err-write_chunks.ensures)

pub returns : goal.returns
returns g c = rw (flat_rest byte_text (256 * (length c.args.bytes.now / 256)) c.args.bytes.now (omega arith)) (puts_then _ _ c.write_chunk.result c.in_ok-write_chunks.ensures c.write_chunk.ensures)
