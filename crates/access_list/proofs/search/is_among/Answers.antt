use Rattle.access_list.proofs.Hits.{there_at}
use Rattle.access_list.proofs.search.is_among.Goals as goal

pub returns-then-is_same-clause-there : goal.returns-then-is_same-clause-there
returns-then-is_same-clause-there c h = there_at c.args.log.now c.args.x.now c.loop-y.y-index _ c.loop-y-test.true (c.is_same.ensures.same c.if-is_same.true)
