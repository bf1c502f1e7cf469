use Rattle.ordered_play.specs.Watched.{IsWatched}
use Rattle.explore_runs.proofs.Going.{made_step, raced_step, failed_step, stopped_step}
use Rattle.explore_runs.proofs.order.play_turn.Goals as goal

pub step_item-requires : goal.step_item-requires
step_item-requires g c = (c.requires.led.state, c.requires.led.holds, c.requires.inside)

pub stop_item-requires-clause-led : goal.stop_item-requires-clause-led
stop_item-requires-clause-led g c =
    let l = g.D.Described.launch c.args.launch.now in
    let r = g.D.Runnable.started c.args.launch.now in
    let fits = IsWatched {D = g.row.D.Denot} g.D.Described.launch g.D.Runnable.started l r c.args.watched.now in
    let new = IsWatched {D = g.row.D.Denot} g.D.Described.launch g.D.Runnable.started l r c.step_item.new.watched in
    stopped_step l fits new c.args.runs.now c.args.item c.requires.led c.in_ok-step_item.field-0 c.in-Stops.stop c.in-Stops.is
    (c.in_ok-step_item.ensures c.requires.led.state c.requires.led.holds)

pub returns-in_ok-push-in-Made-clause-ran : goal.returns-in_ok-push-in-Made-clause-ran
returns-in_ok-push-in-Made-clause-ran g c =
    let l = g.D.Described.launch c.args.launch.now in
    let r = g.D.Runnable.started c.args.launch.now in
    let fits = IsWatched {D = g.row.D.Denot} g.D.Described.launch g.D.Runnable.started l r c.args.watched.now in
    let new = IsWatched {D = g.row.D.Denot} g.D.Described.launch g.D.Runnable.started l r c.step_item.new.watched in
    made_step l fits new c.args.runs.now c.args.item c.requires.led c.in_ok-step_item.field-0 c.push.new.self c.in-Made.is
    (c.in_ok-step_item.ensures c.requires.led.state c.requires.led.holds) c.in_ok-push-in-Made.ensures.added

pub returns-in_ok-push-in-Races-clause-ran : goal.returns-in_ok-push-in-Races-clause-ran
returns-in_ok-push-in-Races-clause-ran g c =
    let l = g.D.Described.launch c.args.launch.now in
    let r = g.D.Runnable.started c.args.launch.now in
    let fits = IsWatched {D = g.row.D.Denot} g.D.Described.launch g.D.Runnable.started l r c.args.watched.now in
    let new = IsWatched {D = g.row.D.Denot} g.D.Described.launch g.D.Runnable.started l r c.step_item.new.watched in
    raced_step l fits new c.args.runs.now c.args.item c.requires.led c.in_ok-step_item.field-0 c.in-Races.fault c.push-in-Races.new.self c.in-Races.is
    (c.in_ok-step_item.ensures c.requires.led.state c.requires.led.holds) c.in_ok-push-in-Races.ensures.added

pub returns-in-Fails-clause-ran : goal.returns-in-Fails-clause-ran
returns-in-Fails-clause-ran g c =
    let l = g.D.Described.launch c.args.launch.now in
    let r = g.D.Runnable.started c.args.launch.now in
    let fits = IsWatched {D = g.row.D.Denot} g.D.Described.launch g.D.Runnable.started l r c.args.watched.now in
    let new = IsWatched {D = g.row.D.Denot} g.D.Described.launch g.D.Runnable.started l r c.step_item.new.watched in
    failed_step l fits new c.args.runs.now c.args.item c.requires.led c.in_ok-step_item.field-0 c.in-Fails.fault c.in-Fails.is
    (c.in_ok-step_item.ensures c.requires.led.state c.requires.led.holds)
