use Rattle.std.proofs.Common.{rules, ◌≡◌, ◌+◌, ◌*◌, true, sym, ◌∙◌, arith}
use Rattle.simfile.specs.Fields.{is_hex_digit}
use Rattle.simfile.proofs.FieldLemmas.{all_between}
use Rattle.simfile.proofs.fields.hex_blocks.Goals as goal

pub loop-index-preserved : goal.loop-index-preserved
loop-index-preserved c =
    let digits : c.are_hex_digits.result ≡ true = search rules in
    all_between is_hex_digit (128 * c.loop-index.index) (128 * c.loop-index.index + 128) (128 * (c.loop-index.index + 1)) c.args.bytes.now (omega arith) (omega arith)
    c.loop-index.invariant (sym c.are_hex_digits.ensures ∙ digits)
