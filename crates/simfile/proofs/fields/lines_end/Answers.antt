use Rattle.std.proofs.Common.{arith}
use Rattle.simfile.proofs.FieldLemmas.{end_found, end_feed, end_other, end_none}
use Rattle.simfile.proofs.fields.lines_end.Goals as goal
use Rattle.simfile.proofs.fields.lines_end.Goals.{then-byte-eq10+else-left-eq1, else-byte-eq10}

pub returns-then-left-eq1 : goal.returns-then-left-eq1
returns-then-left-eq1 c = record {
  value = end_found _ _ _ c.args.bytes.now c.loop-index-test.true c.if-byte-eq10.true c.if-left-eq1.true c.loop-index.invariant.same;
  within = omega arith;
}

pub loop-index-preserved : goal.loop-index-preserved
loop-index-preserved c =
    elim c.if-byte-eq10.branch [
      | then-byte-eq10+else-left-eq1 w ↦ rw w.left-is (record {
        some = omega arith;
        same = end_feed _ _ _ c.args.bytes.now c.loop-index-test.true w.if-byte-eq10.true w.if-left-eq1.false c.loop-index.invariant.same;
      })
      | else-byte-eq10 w ↦ rw w.left-is (record {
        some = c.loop-index.invariant.some;
        same = end_other _ _ _ c.args.bytes.now c.loop-index-test.true w.if-byte-eq10.false c.loop-index.invariant.same;
      })
    ]

pub returns-clause-value : goal.returns-clause-value
returns-clause-value c = end_none _ _ _ c.args.bytes.now c.loop-index-test.false c.loop-index.invariant.same
