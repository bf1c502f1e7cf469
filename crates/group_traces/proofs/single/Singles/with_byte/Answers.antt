use Rattle.std.proofs.Common.{◌<◌, length, arith}
use Rattle.group_traces.proofs.Once.{put_here, put_other}
use Rattle.group_traces.proofs.single.Singles.with_byte.Goals as goal

pub returns-clause-here : goal.returns-clause-here
returns-clause-here c same =
    let s = c.args.self in
    let k = c.args.k in
    let a : k < length s.how.touched = omega arith in
    let b : k < length s.who.items = omega arith in
    let d : k < length s.how.left = omega arith in
    put_here s k c.args.mark a b d same

pub returns-clause-others : goal.returns-clause-others
returns-clause-others c j ne = put_other c.args.self c.args.k j c.args.mark ne
