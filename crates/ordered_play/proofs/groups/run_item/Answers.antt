use Rattle.std.proofs.Common.{◌*◌, ◌+◌, ap, arith}
use Rattle.ordered_play.specs.Watched.{IsWatched}
use Rattle.ordered_play.proofs.Going.{whole_is, made_room, made_step, raced_room, raced_step, failed_step, stopped_step, pushed_longer}
use Rattle.ordered_play.proofs.groups.run_item.Goals as goal

pub overflow_mul-first : goal.overflow_mul-first
overflow_mul-first g c =
    let e = ap (λ n. c.args.group * n) c.group_size.ensures.value in
    omega (arith, e, c.requires.there, c.requires.runnable.numbered)

pub overflow_add-item : goal.overflow_add-item
overflow_add-item g c =
    let l = g.D.Described.launch c.args.launch.now in
    let e = ap (λ n. c.args.group * n) c.group_size.ensures.value in
    omega (arith, e, (whole_is l c.args.group c.requires.runnable c.requires.there).inside c.args.k c.requires.inside, c.requires.runnable.numbered)

pub step_item-requires : goal.step_item-requires
step_item-requires g c =
    let l = g.D.Described.launch c.args.launch.now in
    let r = c.steps.invariant.gathers.reached in
    let e = ap (λ n. c.args.group * n) c.group_size.ensures.value in
    (r.state, r.holds, omega (arith, e, (whole_is l c.args.group c.requires.runnable c.requires.there).inside c.args.k c.requires.inside))

pub push-requires : goal.push-requires
push-requires g c =
    let l = g.D.Described.launch c.args.launch.now in
    let at = c.steps.invariant.gathers in
    made_room l c.args.group _ (IsWatched {D = g.row.D.Denot} g.D.Described.launch g.D.Runnable.started l (g.D.Runnable.started c.args.launch.now) c.step_item.new.watched) c.steps.runs c.args.k c.steps.leading c.requires.runnable c.requires.there c.requires.inside at
    _ c.in_ok-step_item.field-0 (ap (λ n. c.args.group * n + c.args.k) c.group_size.ensures.value) c.in-Made.is (c.in_ok-step_item.ensures at.reached.state at.reached.holds)

pub push-requires-in-Races : goal.push-requires-in-Races
push-requires-in-Races g c =
    let l = g.D.Described.launch c.args.launch.now in
    let at = c.steps.invariant.gathers in
    raced_room l c.args.group _ (IsWatched {D = g.row.D.Denot} g.D.Described.launch g.D.Runnable.started l (g.D.Runnable.started c.args.launch.now) c.step_item.new.watched) c.steps.runs c.args.k c.steps.leading c.requires.runnable c.requires.there c.requires.inside at
    _ c.in_ok-step_item.field-0 c.in-Races.fault (ap (λ n. c.args.group * n + c.args.k) c.group_size.ensures.value) c.in-Races.is (c.in_ok-step_item.ensures at.reached.state at.reached.holds)

pub returns-in-Fails-clause-ran : goal.returns-in-Fails-clause-ran
returns-in-Fails-clause-ran g c =
    let l = g.D.Described.launch c.args.launch.now in
    let at = c.steps.invariant.gathers in
    failed_step l c.args.group _ (IsWatched {D = g.row.D.Denot} g.D.Described.launch g.D.Runnable.started l (g.D.Runnable.started c.args.launch.now) c.step_item.new.watched) c.steps.runs c.args.k c.steps.leading c.requires.runnable c.requires.there c.requires.inside at
    _ c.in_ok-step_item.field-0 c.in-Fails.fault (ap (λ n. c.args.group * n + c.args.k) c.group_size.ensures.value) c.in-Fails.is (c.in_ok-step_item.ensures at.reached.state at.reached.holds)

pub returns-in-Stops-clause-ran : goal.returns-in-Stops-clause-ran
returns-in-Stops-clause-ran g c =
    let l = g.D.Described.launch c.args.launch.now in
    let at = c.steps.invariant.gathers in
    stopped_step l c.args.group _ (IsWatched {D = g.row.D.Denot} g.D.Described.launch g.D.Runnable.started l (g.D.Runnable.started c.args.launch.now) c.step_item.new.watched) c.steps.runs c.args.k c.steps.leading c.requires.runnable c.requires.there c.requires.inside at
    _ _ c.in_ok-step_item.field-0 c.in-Stops.stop c.stop_at.result c.stop_at.new.leading (ap (λ n. c.args.group * n) c.group_size.ensures.value) (ap (λ n. c.args.group * n + c.args.k) c.group_size.ensures.value) c.in-Stops.is
    (c.in_ok-step_item.ensures at.reached.state at.reached.holds) c.stop_at.ensures.first c.stop_at.ensures.same c.stop_at.ensures.apart

pub returns-in-Races-clause-ran : goal.returns-in-Races-clause-ran
returns-in-Races-clause-ran g c =
    let l = g.D.Described.launch c.args.launch.now in
    let at = c.steps.invariant.gathers in
    raced_step l c.args.group _ (IsWatched {D = g.row.D.Denot} g.D.Described.launch g.D.Runnable.started l (g.D.Runnable.started c.args.launch.now) c.step_item.new.watched) c.steps.runs c.args.k c.steps.leading c.requires.runnable c.requires.there c.requires.inside at
    _ c.in_ok-step_item.field-0 c.in-Races.fault c.push-in-Races.new.self (ap (λ n. c.args.group * n + c.args.k) c.group_size.ensures.value) c.in-Races.is (c.in_ok-step_item.ensures at.reached.state at.reached.holds) c.in_ok-push-in-Races.ensures.added

pub steps-preserved : goal.steps-preserved
steps-preserved g c =
    let l = g.D.Described.launch c.args.launch.now in
    let at = c.steps.invariant.gathers in
    let more = pushed_longer c.steps.runs c.push.new.self _ c.in_ok-push-in-Made.ensures.added in
    record {
      grows = omega (arith, c.steps.invariant.grows, more);
      gathers =
          made_step l c.args.group _ (IsWatched {D = g.row.D.Denot} g.D.Described.launch g.D.Runnable.started l (g.D.Runnable.started c.args.launch.now) c.step_item.new.watched) c.steps.runs c.args.k c.steps.leading c.requires.runnable c.requires.there c.requires.inside at
          _ c.in_ok-step_item.field-0 c.push.new.self (ap (λ n. c.args.group * n + c.args.k) c.group_size.ensures.value) c.in-Made.is (c.in_ok-step_item.ensures at.reached.state at.reached.holds) c.in_ok-push-in-Made.ensures.added;
    }

pub steps-smaller : goal.steps-smaller
steps-smaller g c =
    let l = g.D.Described.launch c.args.launch.now in
    let at = c.steps.invariant.gathers in
    let more = pushed_longer c.steps.runs c.push.new.self _ c.in_ok-push-in-Made.ensures.added in
    let room =
    made_room l c.args.group _ (IsWatched {D = g.row.D.Denot} g.D.Described.launch g.D.Runnable.started l (g.D.Runnable.started c.args.launch.now) c.step_item.new.watched) c.steps.runs c.args.k c.steps.leading c.requires.runnable c.requires.there c.requires.inside at
    _ c.in_ok-step_item.field-0 (ap (λ n. c.args.group * n + c.args.k) c.group_size.ensures.value) c.in-Made.is (c.in_ok-step_item.ensures at.reached.state at.reached.holds) in
    omega (arith, more, room)
