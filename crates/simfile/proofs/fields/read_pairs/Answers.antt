use Rattle.std.proofs.Common.{◌*◌, ◌+◌, ◌<◌, length, length-drop, drop, arith, rules}
use Rattle.simfile.proofs.FieldLemmas.{pairs_more, pairs_all}
use Rattle.simfile.proofs.fields.read_pairs.Goals as goal

pub loop-index-preserved : goal.loop-index-preserved
loop-index-preserved c = pairs_more c.loop-index.index _ c.loop-index.bytes c.args.digits.now (search rules) (omega arith) (search rules) c.loop-index.invariant

pub returns : goal.returns
returns c =
    let short : length (drop (2 * c.loop-index.index) c.args.digits.now) < 2 = omega (arith, length-drop (2 * c.loop-index.index) c.args.digits.now) in
    pairs_all c.loop-index.index c.loop-index.bytes c.args.digits.now (omega arith) short c.loop-index.invariant
