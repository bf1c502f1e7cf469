use Rattle.std.proofs.Common.{◌∙◌}
use Rattle.access_list.proofs.Hits.{past_entry}
use Rattle.access_list.proofs.search.is_clear.Goals as goal

pub loop-y-preserved : goal.loop-y-preserved
loop-y-preserved c byte =
    c.loop-y.invariant byte
    ∙ past_entry c.args.rule c.args.x.now byte c.args.log.now c.loop-y.y-index _ c.loop-y-test.true (c.may_conflict.ensures c.if-may_conflict.false byte)
