use Rattle.std.proofs.Common.{◌*◌, ◌<◌, ap, subst, arith}
use Rattle.ordered_play.specs.Watched.{IsWatched}
use Rattle.ordered_play.specs.Groups.{Gathers, GathersOrReports}
use Rattle.ordered_play.proofs.Going.{release_held, release_room, release_step, over_step, pushed_longer}
use Rattle.ordered_play.proofs.groups.run_group.Goals as goal

pub overflow_mul-first : goal.overflow_mul-first
overflow_mul-first g c =
    let e = ap (λ n. c.args.group * n) c.group_size.ensures.value in
    omega (arith, e, c.requires.there, c.requires.runnable.numbered)

pub returns-in-Some : goal.returns-in-Some
returns-in-Some g c =
    let l = g.D.Described.launch c.args.launch.now in
    let fits = IsWatched {D = g.row.D.Denot} g.D.Described.launch g.D.Runnable.started l (g.D.Runnable.started c.args.launch.now) c.run_interval.new.watched in
    let w = c.in_ok-run_interval.ensures.ran in
    subst (λ z. GathersOrReports l c.args.group fits c.run_interval.new.runs l.group_size w.0 z) c.in-Some.is w.1

pub waits-requires : goal.waits-requires
waits-requires g c =
    let l = g.D.Described.launch c.args.launch.now in
    let r = g.D.Runnable.started c.args.launch.now in
    let fits = IsWatched {D = g.row.D.Denot} g.D.Described.launch g.D.Runnable.started l r c.run_interval.new.watched in
    let w = c.in_ok-run_interval.ensures.ran in
    let at : Gathers l c.args.group fits c.run_interval.new.runs l.group_size w.0 = subst (λ z. GathersOrReports l c.args.group fits c.run_interval.new.runs l.group_size w.0 z) c.in-None.is w.1 in
    let e = ap (λ n. c.args.group * n) c.group_size.ensures.value in
    let below : c.args.group * c.group_size.result < l.items = omega (arith, e, c.requires.there) in
    (at.reached.state, at.reached.holds, below)

pub returns-then-not-branch : goal.returns-then-not-branch
returns-then-not-branch g c =
    let l = g.D.Described.launch c.args.launch.now in
    let r = g.D.Runnable.started c.args.launch.now in
    let fits = IsWatched {D = g.row.D.Denot} g.D.Described.launch g.D.Runnable.started l r c.run_interval.new.watched in
    let new = IsWatched {D = g.row.D.Denot} g.D.Described.launch g.D.Runnable.started l r c.waits.new.watched in
    let w = c.in_ok-run_interval.ensures.ran in
    let at : Gathers l c.args.group fits c.run_interval.new.runs l.group_size w.0 = subst (λ z. GathersOrReports l c.args.group fits c.run_interval.new.runs l.group_size w.0 z) c.in-None.is w.1 in
    let s = at.reached.state in
    over_step l c.args.group fits c.run_interval.new.runs w.0 c.requires.runnable c.requires.there at _ c.in_ok-waits.field-0 new (ap (λ n. c.args.group * n) c.group_size.ensures.value) c.if-not-branch.true
    (c.in_ok-waits.ensures.value s at.reached.holds) (c.waits.ensures.same s at.reached.holds)

pub play_release-requires : goal.play_release-requires
play_release-requires g c =
    let l = g.D.Described.launch c.args.launch.now in
    let r = g.D.Runnable.started c.args.launch.now in
    let fits = IsWatched {D = g.row.D.Denot} g.D.Described.launch g.D.Runnable.started l r c.run_interval.new.watched in
    let w = c.in_ok-run_interval.ensures.ran in
    let at : Gathers l c.args.group fits c.run_interval.new.runs l.group_size w.0 = subst (λ z. GathersOrReports l c.args.group fits c.run_interval.new.runs l.group_size w.0 z) c.in-None.is w.1 in
    let s = at.reached.state in
    (l, r, s, c.waits.ensures.same s at.reached.holds)

pub unreachable-requires : goal.unreachable-requires
unreachable-requires g c =
    let l = g.D.Described.launch c.args.launch.now in
    let r = g.D.Runnable.started c.args.launch.now in
    let fits = IsWatched {D = g.row.D.Denot} g.D.Described.launch g.D.Runnable.started l r c.run_interval.new.watched in
    let new = IsWatched {D = g.row.D.Denot} g.D.Described.launch g.D.Runnable.started l r c.play_release.new.self in
    let w = c.in_ok-run_interval.ensures.ran in
    let at : Gathers l c.args.group fits c.run_interval.new.runs l.group_size w.0 = subst (λ z. GathersOrReports l c.args.group fits c.run_interval.new.runs l.group_size w.0 z) c.in-None.is w.1 in
    let s = at.reached.state in
    release_held l c.args.group fits c.run_interval.new.runs w.0 c.requires.runnable c.requires.there at _ c.in_ok-waits.field-0 c.in_ok-play_release.field-0 new (ap (λ n. c.args.group * n) c.group_size.ensures.value) c.if-not-branch.false
    (c.in_ok-waits.ensures.value s at.reached.holds) c.if-not-branch-2.true (c.in_ok-play_release.ensures l r s (c.waits.ensures.same s at.reached.holds))

pub push-requires : goal.push-requires
push-requires g c =
    let l = g.D.Described.launch c.args.launch.now in
    let r = g.D.Runnable.started c.args.launch.now in
    let fits = IsWatched {D = g.row.D.Denot} g.D.Described.launch g.D.Runnable.started l r c.run_interval.new.watched in
    let new = IsWatched {D = g.row.D.Denot} g.D.Described.launch g.D.Runnable.started l r c.play_release.new.self in
    let w = c.in_ok-run_interval.ensures.ran in
    let at : Gathers l c.args.group fits c.run_interval.new.runs l.group_size w.0 = subst (λ z. GathersOrReports l c.args.group fits c.run_interval.new.runs l.group_size w.0 z) c.in-None.is w.1 in
    let s = at.reached.state in
    release_room l c.args.group fits c.run_interval.new.runs w.0 c.requires.runnable c.requires.there at c.in_ok-play_release.field-0 new c.if-not-branch-2.false
    (c.in_ok-play_release.ensures l r s (c.waits.ensures.same s at.reached.holds))

pub intervals-preserved : goal.intervals-preserved
intervals-preserved g c =
    let l = g.D.Described.launch c.args.launch.now in
    let r = g.D.Runnable.started c.args.launch.now in
    let fits = IsWatched {D = g.row.D.Denot} g.D.Described.launch g.D.Runnable.started l r c.run_interval.new.watched in
    let new = IsWatched {D = g.row.D.Denot} g.D.Described.launch g.D.Runnable.started l r c.play_release.new.self in
    let w = c.in_ok-run_interval.ensures.ran in
    let at : Gathers l c.args.group fits c.run_interval.new.runs l.group_size w.0 = subst (λ z. GathersOrReports l c.args.group fits c.run_interval.new.runs l.group_size w.0 z) c.in-None.is w.1 in
    let s = at.reached.state in
    release_step l c.args.group fits c.run_interval.new.runs w.0 c.requires.runnable c.requires.there at _ c.in_ok-waits.field-0 c.in_ok-play_release.field-0 new c.push.new.self (ap (λ n. c.args.group * n) c.group_size.ensures.value) c.if-not-branch.false
    (c.in_ok-waits.ensures.value s at.reached.holds) c.if-not-branch-2.false (c.in_ok-play_release.ensures l r s (c.waits.ensures.same s at.reached.holds)) c.in_ok-push.ensures.added

pub intervals-smaller : goal.intervals-smaller
intervals-smaller g c =
    let l = g.D.Described.launch c.args.launch.now in
    let r = g.D.Runnable.started c.args.launch.now in
    let fits = IsWatched {D = g.row.D.Denot} g.D.Described.launch g.D.Runnable.started l r c.run_interval.new.watched in
    let new = IsWatched {D = g.row.D.Denot} g.D.Described.launch g.D.Runnable.started l r c.play_release.new.self in
    let w = c.in_ok-run_interval.ensures.ran in
    let at : Gathers l c.args.group fits c.run_interval.new.runs l.group_size w.0 = subst (λ z. GathersOrReports l c.args.group fits c.run_interval.new.runs l.group_size w.0 z) c.in-None.is w.1 in
    let s = at.reached.state in
    let room =
    release_room l c.args.group fits c.run_interval.new.runs w.0 c.requires.runnable c.requires.there at c.in_ok-play_release.field-0 new c.if-not-branch-2.false
    (c.in_ok-play_release.ensures l r s (c.waits.ensures.same s at.reached.holds)) in
    let more = pushed_longer c.run_interval.new.runs c.push.new.self _ c.in_ok-push.ensures.added in
    omega (arith, c.run_interval.ensures.grows, more, room)
