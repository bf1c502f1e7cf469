use Rattle.fault_play.specs.PlayedOut.{acts_at}
use Rattle.fault_play.proofs.Lasts.{last_acts, last_more}
use Rattle.fault_play.proofs.played.last_of.Goals as goal

pub loop-number-preserved : goal.loop-number-preserved
loop-number-preserved c =
    last_more (acts_at c.args.marks.now c.args.item) c.loop-number.number c.acts_at.result c.loop-number.last c.this_or_earlier-last.result c.acts_at.ensures
    c.this_or_earlier-last.ensures c.loop-number.invariant

pub returns-clause-event : goal.returns-clause-event
returns-clause-event c = last_acts c.args.marks.now c.args.item c.loop-number.number c.loop-number.last c.loop-number.invariant
