use Rattle.source_spots.proofs.Called.{called_more}
use Rattle.source_spots.proofs.spots.calls_of.Goals as goal

pub loop-at-preserved : goal.loop-at-preserved
loop-at-preserved c =
    called_more c.args.source.now.text.now c.args.source.now.first_line c.args.through.now c.loop-at.at-index _ c.loop-at.calls.items c.push.new.self.items c.in_ok-call_of.field-0
    c.in_ok-push.ensures.items c.in_ok-call_of.ensures c.loop-at.invariant
