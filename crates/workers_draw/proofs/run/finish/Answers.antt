use Rattle.workers_draw.proofs.Steps.{all_drawn, all_seen}
use Rattle.workers_draw.proofs.run.finish.Goals as goal

pub returns-clause-drawn : goal.returns-clause-drawn
returns-clause-drawn c =
    let end = c.close_with.ensures.values in let s = end.2.0 in let d = c.requires.done in
    λ group low. all_drawn c.args.table.shared.key s.words s.views c.args.seat.id c.args.seat.me.0 end.2.1.0 end.2.1.1 c.requires.all d.0 d.1 d.2 group low

pub returns-clause-seen : goal.returns-clause-seen
returns-clause-seen c =
    let end = c.close_with.ensures.values in let s = end.2.0 in
    λ least saw. all_seen c.args.table.shared.key s.words s.views c.args.seat.id c.args.seat.me.0 end.2.1.0 end.2.1.1 c.requires.all least saw
