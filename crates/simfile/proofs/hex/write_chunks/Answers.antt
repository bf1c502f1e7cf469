use Rattle.std.proofs.Common.{◌+◌, ◌*◌, arith}
use Rattle.std.proofs.lemmas.Result.{err_from_is_err_and}
use Rattle.simfile.specs.Fields.{byte_text}
use Rattle.simfile.proofs.FieldLemmas.{chunk_wrote, chunk_stopped}
use Rattle.simfile.proofs.hex.write_chunks.Goals as goal

pub returns-in_err-write_chunk : goal.returns-in_err-write_chunk
returns-in_err-write_chunk g c =
    let p = err_from_is_err_and c.from_residual.result c.from_residual.ensures.1 in
    rw p.1 (chunk_stopped byte_text (256 * c.loop-index.index) (256 * c.loop-index.index + 256) _ c.args.bytes.now (omega arith) (omega arith) c.loop-index.invariant c.in_err-write_chunk.ensures)

pub loop-index-preserved : goal.loop-index-preserved
loop-index-preserved g c = chunk_wrote byte_text (256 * c.loop-index.index) (256 * c.loop-index.index + 256) _ c.args.bytes.now (omega arith) (omega arith) c.loop-index.invariant c.in_ok-write_chunk.ensures
