use Rattle.std.proofs.Common.{ap, length, subst, arith}
use Rattle.ordered_play.specs.Watched.{IsWatched}
use Rattle.explore_runs.specs.Orders.{LedOrShown}
use Rattle.explore_runs.proofs.Going.{stays, goes_on}
use Rattle.explore_runs.proofs.order.play_turns.Goals as goal

pub loop-init : goal.loop-init
loop-init g c = record { few = omega (arith, ap length c.requires.fresh); led = c.requires.led }

pub play_turn-requires-clause-inside : goal.play_turn-requires-clause-inside
play_turn-requires-clause-inside g c = omega (arith, c.requires.counted, c.if-item-items.false)

pub play_turn-requires-clause-room : goal.play_turn-requires-clause-room
play_turn-requires-clause-room g c = omega (arith, c.loop.invariant.few, c.loop-test.true)

pub play_turn-requires-clause-led : goal.play_turn-requires-clause-led
play_turn-requires-clause-led g c =
    let l = g.D.Described.launch c.args.launch.now in
    let r = g.D.Runnable.started c.args.launch.now in
    let fits = IsWatched {D = g.row.D.Denot} g.D.Described.launch g.D.Runnable.started l r c.loop.watched in
    let new = IsWatched {D = g.row.D.Denot} g.D.Described.launch g.D.Runnable.started l r c.next_item.new.watched in
    stays l fits new c.loop.runs c.loop.invariant.led (λ at. c.next_item.ensures l r c.loop.invariant.led.state at)

pub loop-preserved : goal.loop-preserved
loop-preserved g c =
    let l = g.D.Described.launch c.args.launch.now in
    let r = g.D.Runnable.started c.args.launch.now in
    let new = IsWatched {D = g.row.D.Denot} g.D.Described.launch g.D.Runnable.started l r c.play_turn.new.watched in
    record {
      few = omega (arith, c.loop.invariant.few, c.in_ok-play_turn.ensures.grows);
      led = goes_on l new c.play_turn.new.runs c.in_ok-play_turn.field-0 c.in-None.is c.in_ok-play_turn.ensures.ran;
    }

pub returns-in_default : goal.returns-in_default
returns-in_default g c =
    let l = g.D.Described.launch c.args.launch.now in
    let r = g.D.Runnable.started c.args.launch.now in
    let fits = IsWatched {D = g.row.D.Denot} g.D.Described.launch g.D.Runnable.started l r c.loop.watched in
    let new = IsWatched {D = g.row.D.Denot} g.D.Described.launch g.D.Runnable.started l r c.next_item.new.watched in
    stays l fits new c.loop.runs c.loop.invariant.led (λ at. c.next_item.ensures l r c.loop.invariant.led.state at)

pub returns-then-item-items : goal.returns-then-item-items
returns-then-item-items g c =
    let l = g.D.Described.launch c.args.launch.now in
    let r = g.D.Runnable.started c.args.launch.now in
    let fits = IsWatched {D = g.row.D.Denot} g.D.Described.launch g.D.Runnable.started l r c.loop.watched in
    let new = IsWatched {D = g.row.D.Denot} g.D.Described.launch g.D.Runnable.started l r c.next_item.new.watched in
    stays l fits new c.loop.runs c.loop.invariant.led (λ at. c.next_item.ensures l r c.loop.invariant.led.state at)

pub returns-in-Some-2 : goal.returns-in-Some-2
returns-in-Some-2 g c =
    let l = g.D.Described.launch c.args.launch.now in
    let r = g.D.Runnable.started c.args.launch.now in
    let new = IsWatched {D = g.row.D.Denot} g.D.Described.launch g.D.Runnable.started l r c.play_turn.new.watched in
    subst (λ z. LedOrShown l new c.play_turn.new.runs z) c.in-Some-2.is c.in_ok-play_turn.ensures.ran
