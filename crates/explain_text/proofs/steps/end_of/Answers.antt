use Rattle.std.proofs.Common.{length, refl}
use Rattle.std.proofs.lemmas.Option.{slice_get_read}
use Rattle.explain_text.proofs.Added.{events_more}
use Rattle.explain_text.proofs.steps.end_of.Goals as goal

pub loop-at-preserved : goal.loop-at-preserved
loop-at-preserved c =
    let xs = c.args.steps.now in
    let step = c.index-steps-at.result in
    events_more xs c.args.from c.loop-at.at step c.loop-at.invariant (slice_get_read xs (length xs) c.loop-at.at step refl c.loop-at-test.true c.index-steps-at.is)
    (c.is_of.ensures c.if-not-is_of.false)
