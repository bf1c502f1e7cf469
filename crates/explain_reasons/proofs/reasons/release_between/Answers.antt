use Rattle.explain_reasons.specs.Between.{passes_at}
use Rattle.explain_reasons.proofs.Passing.{last_more}
use Rattle.explain_reasons.proofs.reasons.release_between.Goals as goal

pub loop-number-preserved : goal.loop-number-preserved
loop-number-preserved c =
    last_more (passes_at c.args.marks.now c.args.group c.args.from c.args.to) c.loop-number.number c.passes_at.result c.loop-number.last c.this_or_earlier-last.result c.passes_at.ensures
    c.this_or_earlier-last.ensures c.loop-number.invariant
