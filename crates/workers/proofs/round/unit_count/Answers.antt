use Rattle.std.proofs.lemmas.Grind.{div_ceil_times}
use Rattle.workers.proofs.round.unit_count.Goals as goal

pub returns : goal.returns
returns c =
    let times = div_ceil_times c.args.groups c.args.each c.requires in rw c.div_ceil.ensures (record { all = times.0; no_empty_one = times.1 })
