use Rattle.std.proofs.Common.{arith}
use Rattle.ordered_play.specs.Watched.{IsWatched}
use Rattle.explore_runs.proofs.Going.{released_step, kept_step, pushed_longer}
use Rattle.explore_runs.proofs.order.release.Goals as goal

pub play_release-requires : goal.play_release-requires
play_release-requires g c =
    (g.D.Described.launch c.args.launch.now, g.D.Runnable.started c.args.launch.now, c.requires.led.state, c.requires.led.holds)

pub returns-then-not-branch-clause-led : goal.returns-then-not-branch-clause-led
returns-then-not-branch-clause-led g c =
    let l = g.D.Described.launch c.args.launch.now in
    let r = g.D.Runnable.started c.args.launch.now in
    let fits = IsWatched {D = g.row.D.Denot} g.D.Described.launch g.D.Runnable.started l r c.args.watched.now in
    let new = IsWatched {D = g.row.D.Denot} g.D.Described.launch g.D.Runnable.started l r c.play_release.new.self in
    kept_step l fits new c.args.runs.now c.args.group c.requires.led c.in_ok-play_release.field-0 c.if-not-branch.true
    (c.in_ok-play_release.ensures l r c.requires.led.state c.requires.led.holds)

pub returns-clause-grows : goal.returns-clause-grows
returns-clause-grows g c = omega (arith, pushed_longer c.args.runs.now c.push.new.self _ c.in_ok-push.ensures.added)

pub returns-clause-led : goal.returns-clause-led
returns-clause-led g c =
    let l = g.D.Described.launch c.args.launch.now in
    let r = g.D.Runnable.started c.args.launch.now in
    let fits = IsWatched {D = g.row.D.Denot} g.D.Described.launch g.D.Runnable.started l r c.args.watched.now in
    let new = IsWatched {D = g.row.D.Denot} g.D.Described.launch g.D.Runnable.started l r c.play_release.new.self in
    released_step l fits new c.args.runs.now c.push.new.self c.args.group c.requires.led c.in_ok-play_release.field-0 c.if-not-branch.false
    (c.in_ok-play_release.ensures l r c.requires.led.state c.requires.led.holds) c.in_ok-push.ensures.added
